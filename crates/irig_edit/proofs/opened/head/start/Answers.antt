use Rattle.std.proofs.Common.{◌≡◌, [], ℕ, None, ap, subst, sym, ◌∙◌}
use Rattle.irig_recording.specs.Recording.{RecordingView}
use Rattle.irig_edit.specs.{Opened.Opened.mark_beyond, Opened.Opened.state_of, State.State.State, Opened.Walk.walk}
use Rattle.irig_edit.proofs.OpenedLemmas.Heads.{head_within, opened_state}
use Rattle.irig_edit.proofs.opened.head.start.Goals as goal

pub put_marks-requires : goal.put_marks-requires
put_marks-requires c =
    let saved = c.args.saved.now in
    subst (λ (n : ℕ). mark_beyond n 4 saved.marks ≡ None) (sym (ap (λ (r : RecordingView). r.micros) c.in-Ok-open.ensures.0))
    (head_within (state_of c.args.recording saved) saved c.in-Ok.ensures.0)

pub returns-in-Ok-open-clause-start : goal.returns-in-Ok-open-clause-start
returns-in-Ok-open-clause-start c =
    let saved = c.args.saved.now in
    let head = c.in-Ok.ensures in
    let same = opened_state c.in-Ok-open.present.state c.args.recording saved c.in-Ok-open.ensures.0 (c.in-Ok-open.ensures.1 ∙ head.1.0) in
    (c.new.ensures ∙ ap (λ (s : State). walk s saved.cursor [] []) (c.put_marks.ensures ∙ same), (head.0, (head.1.1.0, head.1.1.1)))
