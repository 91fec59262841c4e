use Rattle.std.proofs.Common.{◌≡◌, ◌++◌, length}
use Rattle.irig_difference.specs.PatchText.{script_of}
use Rattle.irig_difference.proofs.patch_text.put_lines.Given as goal

-- the lines so far, with those that are still to come
abbrev pub invariant-loop-left : goal.invariant-loop-left
invariant-loop-left l = l.block.items ++ script_of l.left ≡ l.fn.block.items ++ script_of l.fn.left

abbrev pub decreases-loop-left : goal.decreases-loop-left
decreases-loop-left l = length l.left
