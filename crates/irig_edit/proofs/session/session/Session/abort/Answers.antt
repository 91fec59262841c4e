use Rattle.std.proofs.Common.{◌≡◌, ◌≤◌, rules, IsErr, IsNone, Option, Ok, Bool, not, [], ◌∷◌, refl, sym, subst, ◌-◌, ap, arith}
use Rattle.irig_journal.specs.{declared.opening.Opening.Opening, Groups.aborted}
use Rattle.irig_edit.specs.Session.Session.{SessionView, looks_since, work_in}
use Rattle.irig_edit.specs.{Session.Calls.Call.Abort, Changes.Held.deltas_of, Changes.Looks.Within, Edits.Refusals.first_holding, Session.Machine.Moves}
use Rattle.irig_edit.specs.{Session.Machine.Steps, Session.Work.dropped_since, Session.Work.work_at, declared.session.refusal.Refusal.TheVariants.NoGroup}
use Rattle.irig_edit.proofs.SessionLemmas.MachineSteps.{Steps-aborted, aborted_moves}
use Rattle.irig_edit.proofs.{SessionLemmas.Works.IsWork-aborted, ChangeLemmas.LooksOfSteps.shown, ChangeLemmas.LooksOfSteps.since_rose}
use Rattle.irig_edit.proofs.{SessionLemmas.Refused.refused_stays, SessionLemmas.Refused.still_work, session.session.Session.abort.Goals.In-Ok}
use Rattle.irig_edit.proofs.session.session.Session.abort.Goals as goal

-- an accepted abort is one of the machine
dropped : (c : In-Ok) → Moves aborted (dropped_since c.self.inside.journal.floor)
    (work_at c.self.inside.present.state c.self.inside.cursor c.self.inside.journal) (work_at c.abort.new.state.state c.abort.new.cursor c.abort.new.self)
dropped c =
    let s = c.self.inside in
    let t = c.abort.new in
    let r = c.in-Ok.ensures in
    aborted_moves s.present.state t.state.state s.cursor t.cursor s.journal t.self r.grouped r.left r.steps.1 r.steps.0 r.floor

pub invariant_of-self : goal.invariant_of-self
invariant_of-self c = (IsWork-aborted _ _ c.self.invariant.0 (dropped (goal.at.invariant_of-self c).In-Ok).steps, c.abort.ensures.ready)

pub invariant_of-self-in-Err : goal.invariant_of-self-in-Err
invariant_of-self-in-Err c =
    let same = c.in-Err.ensures.err in
    (still_work _ _ _ _ _ _ c.self.invariant.0 same.2 same.3 same.1, c.abort.ensures.ready)

pub returns-in-Ok-clause-step : goal.returns-in-Ok-clause-step
returns-in-Ok-clause-step c =
    let t = c.abort.new in
    subst (λ (v : SessionView). Steps Abort (work_in v) (Ok tt) (work_at t.state.state t.cursor t.self)) c.self.view_is
    (Steps-aborted _ _ (dropped (goal.at.returns-in-Ok-clause-step c).In-Ok))

pub returns-in-Ok-clause-looks : goal.returns-in-Ok-clause-looks
returns-in-Ok-clause-looks c =
    let s = c.self.inside in
    let past = deltas_of s.journal.past in
    let most = looks_since s.journal.floor s.present.state past in
    let old = s.present.index.looks in
    let new = c.abort.new.state.index.looks in
    let rise = c.looks_since-self-inside.result in
    let shut : IsErr c.abort.result → ⊥ = search rules in
    let rose = since_rose s.present.state past s.journal.floor old new c.in-Ok.ensures.once
    (λ none. shut (c.abort.ensures.none.1 (subst (λ (f : Option Opening). IsNone f) (sym none) refl))) in
    subst (λ (v : SessionView). (v.looks ≤ new) × (rise ≡ new - v.looks) × Within (looks_since v.floor v.state v.past) rise) c.self.view_is
    (shown most old new c.looks-before.result rise rose c.looks-before.ensures (omega arith) c.looks_since-self-inside.ensures)

pub returns-in-Err : goal.returns-in-Err
returns-in-Err c =
    let s = c.self.inside in
    let failed : IsErr c.abort.result = search rules in
    let refused = ap (λ (test : Bool). first_holding ((not test, NoGroup) ∷ [])) (c.abort.ensures.none.0 failed) in
    let same = c.in-Err.ensures.err in
    let stays = refused_stays Abort NoGroup _ s.present _ s.cursor _ s.last_looks s.journal _ c.self.view_is refused same.2 same.3 same.1 in
    record { step = stays.0; looks = stays.1 }
