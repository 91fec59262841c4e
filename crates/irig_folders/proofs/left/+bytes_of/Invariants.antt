use Rattle.std.proofs.Common.{length}
use Rattle.irig_folders.proofs.left.+bytes_of.Given as goal

abbrev pub decreases-bytes_of : goal.decreases-bytes_of
decreases-bytes_of l = length l.calls.now
