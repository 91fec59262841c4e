use Rattle.std.proofs.Common.{rules, ◌≡◌, None, subst, sym}
use Rattle.irig_edit.specs.{Opened.Opened.mark_beyond, State.Present.PresentView}
use Rattle.irig_edit.proofs.OpenedLemmas.Heads.{marks_within}
use Rattle.irig_edit.proofs.state.present.Present.put_marks.Goals as goal

pub invariant_of-self : goal.invariant_of-self
invariant_of-self c =
    let marks = c.args.marks.now in
    let none = subst (λ (v : PresentView). mark_beyond v.state.micros 4 marks ≡ None) (sym c.self.view_is) c.requires in (
      record {
        track = c.self.invariant.0.track;
        permitted = c.self.invariant.0.permitted;
        letters = search rules;
        marks = marks_within c.self.inside.track.micros 4 marks none;
      },
      c.self.invariant.1,
    )
