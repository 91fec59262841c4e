-- An edit that is made or refused is a step of the machine, and so is each other call.
use Rattle.std.proofs.Common.{◌≡◌, ℕ, suc, Bool, true, false, not, List, [], ◌∷◌, length, nat_le, Option, Some, None, option_map, if◌then◌else◌, Ok, is_some}
use Rattle.std.proofs.Common.{refl, ap, sym, subst, ◌∙◌}
use Rattle.std.specs.Prelude.{IfSome}
use Rattle.irig_journal.specs.Joining.{beyond, changes_of, farthest, joined_beyond}
use Rattle.irig_journal.specs.Groups.{Grouped, aborted, begun, ended, is_at_floor, over, recorded_over, redone_over, undone_over}
use Rattle.irig_journal.specs.History.{Step, machine, states_along, turned_back, turned_round}
use Rattle.irig_journal.specs.{declared.opening.Opening.Opening, Turns.left_by, Machine.Kept, Machine.kept, Machine.undone, Openings.floor_at}
use Rattle.irig_journal.specs.Journal as journal
use Rattle.irig_saved.specs.declared.change.Change.{Change}
use Rattle.irig_edit.specs.Session.Calls.Call.{Undo, Redo, Begin, End, Abort}
use Rattle.irig_edit.specs.Session.Work.{Work, dropped_since, floored_here, gone_back, gone_on, grouped_in, history_in, joined_since, made, work_at, work_over}
use Rattle.irig_edit.specs.declared.session.refusal.Refusal.TheVariants.{GroupFloor, GroupOpen, NoGroup, NothingToRedo, NothingToUndo}
use Rattle.irig_edit.specs.{Changes.Delta.Fits, Changes.Delta.gathered, Changes.Delta.turned, Changes.Held.deltas_of, Edits.Becoming.Becomes}
use Rattle.irig_edit.specs.{Edits.Changes.change_by, Edits.Refusals.first_holding, Edits.Refusals.is_at_begin, Edits.Refusals.is_empty, Session.Calls.Edit}
use Rattle.irig_edit.specs.{Session.Machine.Edits, Session.Machine.Moves, Session.Machine.Steps, State.State.State, declared.changes.turn.Turn.Turn}

-- a change that was made is an accepted edit
pub accepts_becomes : (edit : Edit) (w v : Work) (d : Change) (cursor : ℕ) → Becomes edit w.state (turned w.state d).0 cursor → d ≡ change_by edit w.state
    → Fits w.state d
    → v ≡ made d cursor w → grouped_in v ≡ recorded_over (grouped_in w) (kept (turned w.state d).0 cursor) → Edits edit w v
accepts_becomes edit w v d cursor becomes same fits steps states =
    subst (λ (x : Work). Edits edit w x) (sym steps) (record {
      after = becomes.after;
      cursor = becomes.cursor w.cursor;
      fits = subst (λ (x : Change). Fits w.state x) same fits;
      states = ap grouped_in (sym steps) ∙ states;
      steps = (λ i. made (same i) cursor w);
    })

pub length-states_along : (s : State) (steps : List (Step Change)) → length (states_along turned s steps) ≡ length steps
length-states_along s [] = refl
length-states_along s (near ∷ steps) = ap suc (length-states_along (turned s near.change).0 steps)

-- the floor of the machine is the begin of the steps
pub same_floor : (w : Work) → is_at_floor (grouped_in w).floor (grouped_in w).machine.past ≡ is_at_begin w.floor w.past
same_floor w = by_floor w.floor where
  by_floor : (floor : Option Opening)
      → is_at_floor (option_map (floor_at turned w.state w.past) floor) (states_along turned w.state w.past) ≡ is_at_begin floor w.past
  by_floor None = refl
  by_floor (Some o) = ap (λ n. nat_le n o.steps) (length-states_along w.state w.past)

-- what is none if a test holds
allowed_some : {X : Type 0} (test : Bool) (o : Option X) (x : X) → (if test then None else o) ≡ Some x → test ≡ false
allowed_some true o x is = absurd (cc)
allowed_some false o x is = refl

-- an undo that was made goes not beyond the begin of the open group
pub above_begin : (w : Work) (g : Grouped (Kept State)) → undone_over (grouped_in w) ≡ Some g → is_at_begin w.floor w.past ≡ false
above_begin w g back =
    let m = grouped_in w in
    sym (same_floor w) ∙ allowed_some (is_at_floor m.floor m.machine.past) (option_map (over m.floor) (undone m.machine)) g back

-- an undo that was made was allowed
pub Steps-undone : (w v : Work) → Moves undone_over gone_back w v → Steps Undo w (Ok tt) v
Steps-undone w v step = (by_past w.past (is_at_begin w.floor w.past) (above_begin w (grouped_in v) step.states) step.steps, step) where
  by_past : (past : List (Step Change)) (test : Bool) → test ≡ false
      → option_map (work_over w.floor) (turned_back turned w.state w.cursor past w.future) ≡ Some v
      → first_holding ((is_empty past, NothingToUndo) ∷ (test, GroupFloor) ∷ []) ≡ None
  by_past [] test is back = absurd (cc)
  by_past (near ∷ past) true is back = absurd (cc)
  by_past (near ∷ past) false is back = refl

-- and so was a redo
pub Steps-redone : (w v : Work) → Moves redone_over gone_on w v → Steps Redo w (Ok tt) v
Steps-redone w v step = (by_future w.future step.steps, step) where
  by_future : (future : List (Step Change))
      → option_map (work_over w.floor) (option_map turned_round (turned_back turned w.state w.cursor future w.past)) ≡ Some v
      → first_holding ((is_empty future, NothingToRedo) ∷ []) ≡ None
  by_future [] again = absurd (cc)
  by_future (near ∷ future) again = refl

-- if there are steps back, an undo at the begin of the open group is refused
pub floor_refusal : (steps : List (Step Change)) (test : Bool) → (steps ≡ [] → ⊥) → test ≡ true
    → first_holding ((is_empty steps, NothingToUndo) ∷ (test, GroupFloor) ∷ []) ≡ Some GroupFloor
floor_refusal [] test some low = absurd (some refl)
floor_refusal (near ∷ steps) true some low = refl
floor_refusal (near ∷ steps) false some low = absurd (cc)

-- a begin that the journal made is one of the machine
pub begun_moves : (s : State) (cursor : ℕ) (i j : journal.Steps Turn) → begun (grouped_in (work_at s cursor i)) ≡ Some (grouped_in (work_at s cursor j))
    → j.past ≡ i.past → j.future ≡ i.future → j.floor ≡ Some (record { steps = length (deltas_of i.past); cursor = cursor })
    → Moves begun floored_here (work_at s cursor i) (work_at s cursor j)
begun_moves s cursor i j states past future floor = record {
  states = states;
  steps = (λ k. Some (record {
    state = s;
    cursor = cursor;
    past = deltas_of (sym past k);
    future = deltas_of (sym future k);
    floor = sym floor k;
  }));
}

-- and was allowed
pub Steps-begun : (w v : Work) → Moves begun floored_here w v → Steps Begin w (Ok tt) v
Steps-begun w v step = (by_floor w.floor step.states, step) where
  by_floor : (floor : Option Opening) → begun (over (option_map (floor_at turned w.state w.past) floor) (machine turned (history_in w))) ≡ Some (grouped_in v)
      → first_holding ((is_some floor, GroupOpen) ∷ []) ≡ None
  by_floor None step = refl
  by_floor (Some o) step = absurd (cc)

-- an end that the journal made is one of the machine
pub ended_moves : (s : State) (cursor : ℕ) (i j : journal.Steps Turn) → ended (grouped_in (work_at s cursor i)) ≡ Some (grouped_in (work_at s cursor j))
    → IfSome i.floor (λ o. deltas_of j.past ≡ joined_beyond gathered o.steps (deltas_of i.past)) → j.future ≡ i.future → j.floor ≡ None
    → Moves ended (joined_since i.floor) (work_at s cursor i) (work_at s cursor j)
ended_moves s cursor i j states past future closed = record { states = states; steps = by_floor i.floor states past } where
  by_floor : (floor : Option Opening)
      → ended (over (option_map (floor_at turned s (deltas_of i.past)) floor) (machine turned (history_in (work_at s cursor i))))
      ≡ Some (grouped_in (work_at s cursor j))
      → IfSome floor (λ o. deltas_of j.past ≡ joined_beyond gathered o.steps (deltas_of i.past))
      → joined_since floor (work_at s cursor i) ≡ Some (work_at s cursor j)
  by_floor None states past = absurd (cc)
  by_floor (Some o) states past =
      (λ k. Some (record { state = s; cursor = cursor; past = sym past k; future = deltas_of (sym future k); floor = sym closed k }))

-- and was allowed
pub Steps-ended : (w v : Work) → Moves ended (joined_since w.floor) w v → Steps End w (Ok tt) v
Steps-ended w v step = (by_floor w.floor step.steps, step) where
  by_floor : (floor : Option Opening) → joined_since floor w ≡ Some v → first_holding ((not (is_some floor), NoGroup) ∷ []) ≡ None
  by_floor None step = absurd (cc)
  by_floor (Some o) step = refl

-- an abort that the journal made is one of the machine
pub aborted_moves : (s t : State) (cursor place : ℕ) (i j : journal.Steps Turn)
    → aborted (grouped_in (work_at s cursor i)) ≡ Some (grouped_in (work_at t place j))
    → IfSome i.floor (λ o. (t ≡ left_by turned s (changes_of (beyond o.steps (deltas_of i.past)))) × (place ≡ o.cursor))
    → IfSome i.floor (λ o. deltas_of j.past ≡ farthest o.steps (deltas_of i.past)) → deltas_of j.future ≡ [] → j.floor ≡ None
    → Moves aborted (dropped_since i.floor) (work_at s cursor i) (work_at t place j)
aborted_moves s t cursor place i j states left past future closed = record { states = states; steps = by_floor i.floor states left past } where
  by_floor : (floor : Option Opening)
      → aborted (over (option_map (floor_at turned s (deltas_of i.past)) floor) (machine turned (history_in (work_at s cursor i))))
      ≡ Some (grouped_in (work_at t place j))
      → IfSome floor (λ o. (t ≡ left_by turned s (changes_of (beyond o.steps (deltas_of i.past)))) × (place ≡ o.cursor))
      → IfSome floor (λ o. deltas_of j.past ≡ farthest o.steps (deltas_of i.past)) → dropped_since floor (work_at s cursor i) ≡ Some (work_at t place j)
  by_floor None states left past = absurd (cc)
  by_floor (Some o) states left past =
      (λ k. Some (record { state = sym left.0 k; cursor = sym left.1 k; past = sym past k; future = sym future k; floor = sym closed k }))

-- and was allowed
pub Steps-aborted : (w v : Work) → Moves aborted (dropped_since w.floor) w v → Steps Abort w (Ok tt) v
Steps-aborted w v step = (by_floor w.floor step.steps, step) where
  by_floor : (floor : Option Opening) → dropped_since floor w ≡ Some v → first_holding ((not (is_some floor), NoGroup) ∷ []) ≡ None
  by_floor None step = absurd (cc)
  by_floor (Some o) step = refl
