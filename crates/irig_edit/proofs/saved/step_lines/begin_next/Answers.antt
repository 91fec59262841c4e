use Rattle.std.proofs.Common.{rules, ◌≡◌, ◌∷◌}
use Rattle.irig_journal.specs.{Held.held_of, History.step}
use Rattle.irig_saved.specs.{Lines.text_of, SavedText.step_lines}
use Rattle.irig_edit.specs.{Changes.Held.delta_of, Changes.Held.deltas_of, Saved.Saved.saved_step, Saved.SavedParts.steps_text}
use Rattle.irig_edit.proofs.SavedLemmas.Rests.{next_begun, steps-next}
use Rattle.irig_edit.proofs.saved.step_lines.begin_next.Goals as goal

pub returns-clause-bytes : goal.returns-clause-bytes
returns-clause-bytes c =
    let left = c.args.left.now in
    let others = c.next.new.self in
    let kept = held_of c.unwrap.result in
    let split : left ≡ kept ∷ others = search rules in
    let there = step (delta_of kept.parts) kept.cursor in
    next_begun c.args.block.now.items c.begin_step.new.text.items (steps_text (deltas_of left)) (text_of (step_lines (saved_step there)))
    c.in_ok-changes.field-0 (steps_text (deltas_of others)) c.in_ok-changes.ensures (steps-next left others kept split)
