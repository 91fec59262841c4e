use Rattle.std.proofs.Common.{◌≡◌, ◌++◌, length, reverse}
use Rattle.irig_edit.specs.Saved.SavedParts.{changes_text}
use Rattle.irig_edit.proofs.saved.change_lines.ChangeLines.fill.Given as goal

-- the block, with the lines that are left of the change that has begun, and those of the changes that are left
abbrev pub invariant-loop-ended : goal.invariant-loop-ended
invariant-loop-ended l =
    l.block.items ++ (l.self-inside.single ++ changes_text (reverse l.self-inside.left.now)) ≡ l.fn.block.items ++ l.fn.self

abbrev pub decreases-loop-ended : goal.decreases-loop-ended
decreases-loop-ended l = length l.self-inside.left.now
