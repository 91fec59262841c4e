use Rattle.std.proofs.Common.{length}
use Rattle.irig_explaining.proofs.stretch.Stretch.+cheapest_fall.Given as goal

abbrev pub decreases-cheapest_fall : goal.decreases-cheapest_fall
decreases-cheapest_fall l = length l.pulses.now
