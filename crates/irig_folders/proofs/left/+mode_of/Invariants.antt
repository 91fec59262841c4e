use Rattle.std.proofs.Common.{length}
use Rattle.irig_folders.proofs.left.+mode_of.Given as goal

abbrev pub decreases-mode_of : goal.decreases-mode_of
decreases-mode_of l = length l.calls.now
