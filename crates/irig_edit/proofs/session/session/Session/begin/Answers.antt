use Rattle.std.proofs.Common.{rules, IsErr, Ok, Bool, [], ◌∷◌, refl, ap, subst}
use Rattle.irig_edit.specs.{Session.Calls.Call.Begin, Edits.Refusals.first_holding, Session.Machine.Steps, Session.Session.SessionView, Session.Session.work_in}
use Rattle.irig_edit.specs.{Session.Work.work_at, declared.session.refusal.Refusal.TheVariants.GroupOpen}
use Rattle.irig_edit.proofs.session.session.Session.begin.Goals.{in-Ok, in-Err}
use Rattle.irig_edit.proofs.{SessionLemmas.Works.IsWork-begun, SessionLemmas.Refused.refused_stays, SessionLemmas.Refused.still_work}
use Rattle.irig_edit.proofs.{SessionLemmas.MachineSteps.Steps-begun, SessionLemmas.MachineSteps.begun_moves, ChangeLemmas.Readiness.ready_same}
use Rattle.irig_edit.proofs.session.session.Session.begin.Goals as goal

pub invariant_of-self : goal.invariant_of-self
invariant_of-self c =
    let s = c.self.inside in
    let t = c.begin.new.self in
    let kept = c.begin.ensures.steps in
    let ready = ready_same s.present s.journal t kept.0 kept.1 c.self.invariant.1 in
    elim c.match-begin.branch [
      | in-Ok w ↦
          let step = begun_moves s.present.state s.cursor s.journal t (w.in-Ok.ensures.grouped s.present.state) kept.0 kept.1 w.in-Ok.ensures.floor in
          (IsWork-begun _ _ c.self.invariant.0 step.steps, ready)
      | in-Err w ↦ (still_work s.present s.present s.cursor s.cursor _ _ c.self.invariant.0 refl refl w.in-Err.ensures.err.1, ready)
    ]

pub returns-clause-step : goal.returns-clause-step
returns-clause-step c =
    let s = c.self.inside in
    let t = c.begin.new.self in
    let kept = c.begin.ensures.steps in
    elim c.match-begin.branch [
      | in-Ok w ↦
          let step = begun_moves s.present.state s.cursor s.journal t (w.in-Ok.ensures.grouped s.present.state) kept.0 kept.1 w.in-Ok.ensures.floor in
          rw w.result-is (subst (λ (v : SessionView). Steps Begin (work_in v) (Ok tt) (work_at s.present.state s.cursor t)) c.self.view_is
          (Steps-begun _ _ step))
      | in-Err w ↦
          let failed : IsErr c.begin.result = search rules in
          let refused = ap (λ (test : Bool). first_holding ((test, GroupOpen) ∷ [])) (c.begin.ensures.open.0 failed) in
          let stays = refused_stays Begin GroupOpen _ s.present s.present s.cursor s.cursor s.last_looks s.journal _ c.self.view_is refused refl refl
          w.in-Err.ensures.err.1 in
          rw w.result-is stays.0
    ]
