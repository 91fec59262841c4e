use Rattle.std.proofs.Common.{length}
use Rattle.irig_folders.proofs.layout.+other_at.Given as goal

abbrev pub decreases-other_at : goal.decreases-other_at
decreases-other_at l = length l.others.now
