use Rattle.std.proofs.Common.{◌++◌, ◌∙◌}
use Rattle.irig_edit.specs.{Saved.SavedParts.middle_text, Saved.SavedParts.opening_text, Saved.SavedParts.parts_left, Saved.Stages.text_after}
use Rattle.irig_edit.proofs.SavedLemmas.Rests.{stage-ended, written}
use Rattle.irig_edit.proofs.saved.text.SavedTextText.fill.Goals as goal

pub loop-self-preserved : goal.loop-self-preserved
loop-self-preserved c =
    let inside = c.loop-self.self-inside in
    let filled = c.fill_stage-filled.new in
    let next = c.end_stage.new.stage in
    let opening = opening_text inside.present.now.state inside.cursor inside.journal.now in
    let middle = middle_text inside.journal.now in
    let split = stage-ended inside.stage next filled.dump opening filled.back middle filled.on c.in-Ok.ensures.next
    (c.in-Ok-true.ensures.end c.in-Ok-true.field-0-test) in
    written filled.block.items c.end_stage.new.text.items (parts_left inside.stage filled.dump opening filled.back middle filled.on)
    (text_after inside.stage opening middle) (parts_left next filled.dump opening filled.back middle filled.on)
    (c.args.block.now.items ++ c.args.self.now) (c.in-Ok-true.ensures.bytes opening middle ∙ c.loop-self.invariant) split c.in-Ok.ensures.bytes
