use Rattle.std.proofs.Common.{length}
use Rattle.irig_comments.proofs.Countings.{IsCounting}
use Rattle.irig_comments.proofs.counts.Counts.between.Given as goal

abbrev pub invariant-loop-sides : goal.invariant-loop-sides
invariant-loop-sides l = IsCounting l.fn.before l.fn.after l.counts l.left

abbrev pub decreases-loop-sides : goal.decreases-loop-sides
decreases-loop-sides l = length l.left
