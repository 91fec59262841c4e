use Rattle.std.proofs.Common.{length}
use Rattle.irig_explaining.proofs.looks.+high_inside.Given as goal

abbrev pub decreases-high_inside : goal.decreases-high_inside
decreases-high_inside l = length l.pulses.now
