use Rattle.std.proofs.Common.{length}
use Rattle.irig_explaining.proofs.looks.+count_inside.Given as goal

abbrev pub decreases-count_inside : goal.decreases-count_inside
decreases-count_inside l = length l.pulses.now
