use Rattle.std.proofs.Common.{length}
use Rattle.irig_folders.proofs.layout.+output_at.Given as goal

abbrev pub decreases-output_at : goal.decreases-output_at
decreases-output_at l = length l.others.now
