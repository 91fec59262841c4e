use Rattle.irig_patch.proofs.{CommentedRuns.comments_make, CommentedRuns.comments_stop, CommentedRuns.comments_write, JoinedRuns.comments_join}
use Rattle.irig_patch.proofs.law.commented_patches_are_scripts.Goals as goal

pub returns : goal.returns
returns c = record { make = comments_make; stop = comments_stop; write = comments_write; joined = comments_join }
