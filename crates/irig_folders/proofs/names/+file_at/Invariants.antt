use Rattle.std.proofs.Common.{length}
use Rattle.irig_folders.proofs.names.+file_at.Given as goal

abbrev pub decreases-file_at : goal.decreases-file_at
decreases-file_at l = length l.calls.now
