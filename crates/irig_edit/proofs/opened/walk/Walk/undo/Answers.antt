use Rattle.std.proofs.Common.{ap, sym, subst, ◌∙◌}
use Rattle.irig_journal.specs.{History.stepped_back, Journal.past_of, declared.opening.Opening.Opening, Openings.AtFloor}
use Rattle.std.specs.Prelude.{Option, length}
use Rattle.irig_edit.specs.{Changes.Delta.turned, Changes.Held.delta_of}
use Rattle.irig_edit.proofs.OpenedLemmas.Walks.{made_back}
use Rattle.irig_edit.proofs.opened.walk.Walk.undo.Goals as goal

pub returns : goal.returns
returns c = λ some.
    let w = c.self.inside in
    let past = past_of delta_of w.journal in
    let here = ap (λ h. h.past) c.self.view_is in
    let led = made_back c.undo-undone.result _ c.undo-undone.ensures.step c.undo-undone.ensures.faults
    (λ none. some (sym here ∙ c.undo-undone.ensures.nothing.0 none))
    (λ low. subst (λ (f : Option Opening). AtFloor f (length past)) c.self.invariant.0 (c.undo-undone.ensures.at_floor.0 low).1) in
    ap (stepped_back turned) (sym c.self.view_is) ∙ led.steps
