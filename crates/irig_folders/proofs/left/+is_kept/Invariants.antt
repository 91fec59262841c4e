use Rattle.std.proofs.Common.{length}
use Rattle.irig_folders.proofs.left.+is_kept.Given as goal

abbrev pub decreases-is_kept : goal.decreases-is_kept
decreases-is_kept l = length l.calls.now
