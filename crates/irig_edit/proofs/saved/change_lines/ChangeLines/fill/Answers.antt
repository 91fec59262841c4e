use Rattle.std.proofs.Common.{◌≡◌, ◌++◌, ◌∷◌, [], ℕ, List, ap, reverse, ◌∙◌}
use Rattle.irig_saved.specs.{Lines.text_of, SavedText.single_lines}
use Rattle.irig_edit.specs.Saved.SavedParts.{changes_text}
use Rattle.irig_edit.proofs.SavedLemmas.Rests.{begun, changes-next}
use Rattle.irig_edit.proofs.saved.change_lines.ChangeLines.fill.Goals as goal

pub loop-ended-preserved : goal.loop-ended-preserved
loop-ended-preserved c =
    let left = c.loop-ended.self-inside.left.now in
    let others = c.in-Some.others.now in
    let turn = c.in-Some.turn.now in
    let split : left ≡ others ++ turn ∷ [] = c.in-Some.ensures.cases.0 in
    let block = c.fill.new.block.items in
    begun c.loop-ended.block.items block block c.loop-ended.self-inside.single c.fill.new.self
    (changes_text (reverse left)) (text_of (single_lines turn.single)) c.of-self-inside.result (changes_text (reverse others))
    c.in-Ok-true.ensures.bytes (c.in-Ok-true.ensures.end c.in-Ok-true.field-0-test)
    (ap (λ (t : List ℕ). block ++ t) c.of-self-inside.ensures) (changes-next left others turn split)
    ∙ c.loop-ended.invariant
