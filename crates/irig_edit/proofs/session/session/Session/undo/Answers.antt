use Rattle.std.proofs.Common.{◌≤◌, rules, length, ◌≡◌, IsErrOf, Ok, true, Option, Some, subst, ◌-◌, ap, ◌∙◌, sym, arith, inl, inr, option_map, List, None}
use Rattle.std.proofs.lemmas.Bool.Decides.{nat_tests}
use Rattle.irig_journal.specs.{declared.opening.Opening.Opening, Groups.undone_over, History.Step, Journal.past_of, Journal.future_of, Openings.AtFloor}
use Rattle.irig_journal.specs.declared.fault.JournalFault.TheVariants as fault
use Rattle.irig_saved.specs.declared.change.Change.{Change}
use Rattle.irig_edit.specs.{Session.Calls.Call.Undo, Changes.Held.delta_of, Changes.Looks.Within, Edits.Refusals.is_at_begin, Session.Machine.Moves}
use Rattle.irig_edit.specs.{Session.Machine.Steps, declared.session.refusal.Refusal.TheVariants.GroupFloor, Session.Session.SessionView}
use Rattle.irig_edit.specs.{Session.Session.looks_of_nearest, Session.Session.work_in, Session.Work.gone_back, Session.Work.work_at, Session.Work.work_over}
use Rattle.irig_edit.proofs.SessionLemmas.MachineSteps.{Steps-undone, above_begin, floor_refusal}
use Rattle.irig_edit.proofs.{SessionLemmas.Works.IsWork-back, ChangeLemmas.LooksOfSteps.nearest_rose, ChangeLemmas.LooksOfSteps.shown}
use Rattle.irig_edit.proofs.{SessionLemmas.Refused.refused_stays, SessionLemmas.Refused.still_work, session.session.Session.undo.Goals.In-Ok}
use Rattle.irig_edit.proofs.session.session.Session.undo.Goals as goal

-- an accepted undo is one of the machine, and a step back
back : (c : In-Ok) → Moves undone_over gone_back (work_at c.self.inside.present.state c.self.inside.cursor c.self.inside.journal)
    (work_at c.undo.new.state.state c.undo.new.cursor c.undo.new.self)
back c =
    let step = c.in-Ok.ensures.step.steps in
    let floor = sym c.in-Ok.ensures.grouped.1 in
    record {
      states = c.in-Ok.ensures.grouped.0;
      steps = ap (option_map (work_over c.self.inside.journal.floor)) step
          ∙ ap (λ (f : Option Opening). Some (work_over f (record {
            state = c.undo.new.state.state;
            cursor = c.undo.new.cursor;
            past = past_of delta_of c.undo.new.self;
            future = future_of delta_of c.undo.new.self;
          }))) floor;
    }

pub invariant_of-self : goal.invariant_of-self
invariant_of-self c =
    let s = c.self.inside in
    let step = back (goal.at.invariant_of-self c).In-Ok in
    let w = work_at s.present.state s.cursor s.journal in
    (IsWork-back w _ c.self.invariant.0 (above_begin w _ step.states) step.steps, c.undo.ensures.ready)

pub invariant_of-self-in-Err-NothingToUndo : goal.invariant_of-self-in-Err-NothingToUndo
invariant_of-self-in-Err-NothingToUndo c =
    let same = c.in-Err-NothingToUndo.ensures.err in
    (still_work _ _ _ _ _ _ c.self.invariant.0 same.1 same.2 same.0, c.undo.ensures.ready)

pub invariant_of-self-in-Err : goal.invariant_of-self-in-Err
invariant_of-self-in-Err c =
    let same = c.in-Err.ensures.err in
    (still_work _ _ _ _ _ _ c.self.invariant.0 same.1 same.2 same.0, c.undo.ensures.ready)

pub returns-in-Ok-clause-step : goal.returns-in-Ok-clause-step
returns-in-Ok-clause-step c =
    let s = c.self.inside in
    subst (λ (v : SessionView). Steps Undo (work_in v) (Ok tt) (work_at c.undo.new.state.state c.undo.new.cursor c.undo.new.self)) c.self.view_is
    (Steps-undone (work_at s.present.state s.cursor s.journal) _ (back (goal.at.returns-in-Ok-clause-step c).In-Ok))

pub returns-in-Ok-clause-looks : goal.returns-in-Ok-clause-looks
returns-in-Ok-clause-looks c =
    let s = c.self.inside in
    let past = past_of delta_of s.journal in
    let most = looks_of_nearest s.present.state past in
    let old = s.present.index.looks in
    let new = c.undo.new.state.index.looks in
    let rise = c.looks_since-self-inside.result in
    let rose = nearest_rose s.present.state past old new c.in-Ok.ensures.step.once in
    subst (λ (v : SessionView). (v.looks ≤ new) × (rise ≡ new - v.looks) × Within (looks_of_nearest v.state v.past) rise) c.self.view_is
    (shown most old new c.looks-before.result rise rose c.looks-before.ensures (omega arith) c.looks_since-self-inside.ensures)

at_begin : (past : List (Step Change)) (floor : Option Opening) → AtFloor floor (length past) → is_at_begin floor past ≡ true
at_begin past None at = absurd at
at_begin past (Some o) at = grind (arith, nat_tests, at)

pub returns-in-Err : goal.returns-in-Err
returns-in-Err c =
    let s = c.self.inside in
    let past = past_of delta_of s.journal in
    let some : IsErrOf c.undo.result fault.NothingToUndo → ⊥ = search rules in
    let floor : IsErrOf c.undo.result fault.GroupFloor = elim c.in-Err.ensures.faults as (λ _. IsErrOf c.undo.result fault.GroupFloor) [
      | inl none ↦ absurd (some (c.in-Err.is ∙ none))
      | inr at ↦ c.in-Err.is ∙ at
    ] in
    let at = c.undo.ensures.at_floor.0 floor in
    let refused = floor_refusal past _ at.0 (at_begin past s.journal.floor at.1) in
    let same = c.in-Err.ensures.err in
    let stays = refused_stays Undo GroupFloor _ s.present _ s.cursor _ s.last_looks s.journal _ c.self.view_is refused same.1 same.2 same.0 in
    record { step = stays.0; looks = stays.1 }
