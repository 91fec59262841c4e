use Rattle.std.proofs.Common.{◌≡◌, ◌≤◌, Option, Some, Ok, [], ◌∷◌, List, subst, ◌-◌, ap, ◌∙◌, sym, arith, option_map}
use Rattle.irig_journal.specs.{declared.opening.Opening.Opening, Groups.redone_over, History.Step, Journal.past_of, Journal.future_of}
use Rattle.irig_saved.specs.declared.change.Change.{Change}
use Rattle.irig_edit.specs.{Session.Session.SessionView, Session.Session.looks_of_nearest, Session.Session.work_in, Session.Work.gone_on, Session.Work.work_at}
use Rattle.irig_edit.specs.{Session.Work.work_over, Session.Calls.Call.Redo, Changes.Held.delta_of, Changes.Looks.Within, Edits.Refusals.first_holding}
use Rattle.irig_edit.specs.{Edits.Refusals.is_empty, Session.Machine.Moves, Session.Machine.Steps, declared.session.refusal.Refusal.TheVariants.NothingToRedo}
use Rattle.irig_edit.proofs.ChangeLemmas.LooksOfSteps.{nearest_rose, shown}
use Rattle.irig_edit.proofs.SessionLemmas.Refused.{refused_stays, still_work}
use Rattle.irig_edit.proofs.{SessionLemmas.Works.IsWork-on, SessionLemmas.MachineSteps.Steps-redone, session.session.Session.redo.Goals.In-Ok}
use Rattle.irig_edit.proofs.session.session.Session.redo.Goals as goal

-- an accepted redo is one of the machine, and a step on
again : (c : In-Ok) → Moves redone_over gone_on (work_at c.self.inside.present.state c.self.inside.cursor c.self.inside.journal)
    (work_at c.redo.new.state.state c.redo.new.cursor c.redo.new.self)
again c =
    let step = c.in-Ok.ensures.step.steps in
    let floor = sym c.in-Ok.ensures.grouped.1 in
    record {
      states = c.in-Ok.ensures.grouped.0;
      steps = ap (option_map (work_over c.self.inside.journal.floor)) step
          ∙ ap (λ (f : Option Opening). Some (work_over f (record {
            state = c.redo.new.state.state;
            cursor = c.redo.new.cursor;
            past = past_of delta_of c.redo.new.self;
            future = future_of delta_of c.redo.new.self;
          }))) floor;
    }

pub invariant_of-self : goal.invariant_of-self
invariant_of-self c = (IsWork-on _ _ c.self.invariant.0 (again (goal.at.invariant_of-self c).In-Ok).steps, c.redo.ensures.ready)

pub invariant_of-self-in-Err : goal.invariant_of-self-in-Err
invariant_of-self-in-Err c =
    let same = c.in-Err.ensures.err in
    (still_work _ _ _ _ _ _ c.self.invariant.0 same.1 same.2 same.0, c.redo.ensures.ready)

pub returns-in-Ok-clause-step : goal.returns-in-Ok-clause-step
returns-in-Ok-clause-step c =
    subst (λ (v : SessionView). Steps Redo (work_in v) (Ok tt) (work_at c.redo.new.state.state c.redo.new.cursor c.redo.new.self)) c.self.view_is
    (Steps-redone _ _ (again (goal.at.returns-in-Ok-clause-step c).In-Ok))

pub returns-in-Ok-clause-looks : goal.returns-in-Ok-clause-looks
returns-in-Ok-clause-looks c =
    let s = c.self.inside in
    let future = future_of delta_of s.journal in
    let most = looks_of_nearest s.present.state future in
    let old = s.present.index.looks in
    let new = c.redo.new.state.index.looks in
    let rise = c.looks_since-self-inside.result in
    let rose = nearest_rose s.present.state future old new c.in-Ok.ensures.step.once in
    subst (λ (v : SessionView). (v.looks ≤ new) × (rise ≡ new - v.looks) × Within (looks_of_nearest v.state v.future) rise) c.self.view_is
    (shown most old new c.looks-before.result rise rose c.looks-before.ensures (omega arith) c.looks_since-self-inside.ensures)

pub returns-in-Err : goal.returns-in-Err
returns-in-Err c =
    let s = c.self.inside in
    let empty = c.redo.ensures.nothing.0 (c.in-Err.is ∙ c.in-Err.ensures.faults) in
    let none = ap (λ (steps : List (Step Change)). first_holding ((is_empty steps, NothingToRedo) ∷ [])) empty in
    let same = c.in-Err.ensures.err in
    let stays = refused_stays Redo NothingToRedo _ s.present _ s.cursor _ s.last_looks s.journal _ c.self.view_is none same.1 same.2 same.0 in
    record { step = stays.0; looks = stays.1 }
