use Rattle.std.proofs.Common.{◌≡◌, ◌++◌, length}
use Rattle.irig_edit.specs.{Changes.Held.deltas_of, Saved.SavedParts.steps_text}
use Rattle.irig_edit.proofs.saved.step_lines.StepLines.fill.Given as goal

-- the block, with the lines that are left of the step that has begun, and those of the steps that are left
abbrev pub invariant-loop-ended : goal.invariant-loop-ended
invariant-loop-ended l =
    l.block.items ++ (l.self-inside.changes ++ steps_text (deltas_of l.self-inside.left)) ≡ l.fn.block.items ++ l.fn.self

abbrev pub decreases-loop-ended : goal.decreases-loop-ended
decreases-loop-ended l = length l.self-inside.left
