use Rattle.std.proofs.Common.{rules, IsErr, Ok, Bool, not, [], ◌∷◌, refl, subst, ap}
use Rattle.irig_edit.specs.{Session.Calls.Call.End, Edits.Refusals.first_holding, Session.Machine.Steps, Session.Session.SessionView, Session.Session.work_in}
use Rattle.irig_edit.specs.{Session.Work.work_at, declared.session.refusal.Refusal.TheVariants.NoGroup}
use Rattle.irig_edit.proofs.SessionLemmas.MachineSteps.{Steps-ended, ended_moves}
use Rattle.irig_edit.proofs.session.session.Session.end.Goals.{in-Ok, in-Err}
use Rattle.irig_edit.proofs.{SessionLemmas.Works.IsWork-ended, SessionLemmas.Refused.refused_stays, SessionLemmas.Refused.still_work}
use Rattle.irig_edit.proofs.session.session.Session.end.Goals as goal

pub invariant_of-self : goal.invariant_of-self
invariant_of-self c =
    let s = c.self.inside in
    elim c.match-end.branch [
      | in-Ok w ↦
          let step = ended_moves s.present.state s.cursor s.journal c.end.new.self (w.in-Ok.ensures.grouped s.cursor) w.in-Ok.ensures.steps
          c.end.ensures.stays w.in-Ok.ensures.floor in
          (IsWork-ended _ _ c.self.invariant.0 step.steps, c.end.ensures.ready)
      | in-Err w ↦ (still_work s.present s.present s.cursor s.cursor _ _ c.self.invariant.0 refl refl w.in-Err.ensures.err.1, c.end.ensures.ready)
    ]

pub returns-clause-step : goal.returns-clause-step
returns-clause-step c =
    let s = c.self.inside in
    elim c.match-end.branch [
      | in-Ok w ↦
          let step = ended_moves s.present.state s.cursor s.journal c.end.new.self (w.in-Ok.ensures.grouped s.cursor) w.in-Ok.ensures.steps
          c.end.ensures.stays w.in-Ok.ensures.floor in
          rw w.result-is (subst (λ (v : SessionView). Steps End (work_in v) (Ok tt) (work_at s.present.state s.cursor c.end.new.self)) c.self.view_is
          (Steps-ended _ _ step))
      | in-Err w ↦
          let failed : IsErr c.end.result = search rules in
          let refused = ap (λ (test : Bool). first_holding ((not test, NoGroup) ∷ [])) (c.end.ensures.none.0 failed) in
          let stays = refused_stays End NoGroup _ s.present s.present s.cursor s.cursor s.last_looks s.journal _ c.self.view_is refused refl refl
          w.in-Err.ensures.err.1 in
          rw w.result-is stays.0
    ]
