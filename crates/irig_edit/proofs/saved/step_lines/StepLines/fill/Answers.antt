use Rattle.std.proofs.Common.{◌∙◌}
use Rattle.irig_edit.specs.{Changes.Held.deltas_of, Saved.SavedParts.steps_text}
use Rattle.irig_edit.proofs.SavedLemmas.Rests.{ended}
use Rattle.irig_edit.proofs.saved.step_lines.StepLines.fill.Goals as goal

pub loop-ended-preserved : goal.loop-ended-preserved
loop-ended-preserved c =
    let inside = c.loop-ended.self-inside in
    c.in-Ok-false.ensures.bytes
    ∙ (ended c.loop-ended.block.items c.fill.new.block.items inside.changes c.fill.new.self (steps_text (deltas_of inside.left))
    c.in-Ok-true.ensures.bytes (c.in-Ok-true.ensures.end c.in-Ok-true.field-0-test)
    ∙ c.loop-ended.invariant)

pub returns-in-Ok-true-begin_next-clause-bytes : goal.returns-in-Ok-true-begin_next-clause-bytes
returns-in-Ok-true-begin_next-clause-bytes c =
    let inside = c.loop-ended.self-inside in
    c.in-Ok-true-begin_next.ensures.bytes
    ∙ (ended c.loop-ended.block.items c.fill.new.block.items inside.changes c.fill.new.self (steps_text (deltas_of inside.left))
    c.in-Ok-true.ensures.bytes (c.in-Ok-true.ensures.end c.in-Ok-true.field-0-test)
    ∙ c.loop-ended.invariant)
