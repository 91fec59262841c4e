use Rattle.std.proofs.Common.{subst}
use Rattle.irig_edit.specs.{Opened.GoingOn.GoesOn, Opened.GoingOn.IsAlwaysOpened, Opened.GoingOn.IsShort, Session.Session.SessionView, Session.Work.work_at}
use Rattle.irig_edit.proofs.OpenedLemmas.GoingOn.{always_opened, goes_on}
use Rattle.irig_edit.proofs.law.saved_goes_on.Goals as goal

pub returns : goal.returns
returns c =
    let s = c.session.inside in
    let w = work_at s.present.state s.cursor s.journal in
    record {
      same = subst (λ (v : SessionView). IsShort v → GoesOn v) c.session.view_is (goes_on w c.session.invariant.0);
      opened = subst (λ (v : SessionView). IsShort v → IsAlwaysOpened v) c.session.view_is (always_opened w c.session.invariant.0);
    }
