use Rattle.std.proofs.Common.{Option, None, sym, subst}
use Rattle.irig_journal.specs.{declared.opening.Opening.Opening, History.History, Journal.history_of}
use Rattle.irig_saved.specs.declared.change.Change.{Change}
use Rattle.irig_edit.specs.{Changes.Held.delta_of, Session.Limits.IsWork, Session.Work.work_over, State.State.State}
use Rattle.irig_edit.proofs.opened.walk.Walk.into_session.Goals as goal

pub invariant_of-result : goal.invariant_of-result
invariant_of-result c =
    let s = c.self.inside in
    let is : IsWork (work_over None c.args.self) = record {
      state = c.len-len.ensures.state;
      cursor = c.requires.cursor;
      past = c.requires.steps.0;
      future = c.requires.steps.1;
      floor = tt;
    } in
    let here = subst (λ (h : History State Change). IsWork (work_over None h)) (sym c.self.view_is) is in (
      subst (λ (f : Option Opening). IsWork (work_over f (history_of delta_of s.present.state s.cursor s.journal))) (sym c.self.invariant.0) here,
      c.self.invariant.1,
    )
