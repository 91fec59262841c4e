use Rattle.std.proofs.Common.{◌≡◌, ◌-◌, ◌++◌, vec_len}
use Rattle.irig_comments.proofs.commented.put_lines.Given as goal

-- the lines so far, with those that are still to come
abbrev pub invariant-loop-left : goal.invariant-loop-left
invariant-loop-left l = l.block.items ++ l.left ≡ l.fn.block.items ++ l.fn.left

abbrev pub decreases-loop-left : goal.decreases-loop-left
decreases-loop-left l = l.enough - vec_len l.block
