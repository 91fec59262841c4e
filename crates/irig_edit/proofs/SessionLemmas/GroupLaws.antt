-- What a group leaves, whatever is done in it.
use Rattle.std.proofs.Common.{◌≡◌, ◌-◌, ◌+◌, ◌≤◌, inl, inr, ℕ, suc, zero, Bool, true, false, List, [], ◌∷◌, ◌++◌, length, drop, take, nat_le, Option, Some}
use Rattle.std.proofs.Common.{None, option_map, Result, Ok, Err, refl, ap, sym, ◌∙◌, subst, if◌then◌else◌, arith, length-append}
use Rattle.std.specs.List.{AllByRecursion}
use Rattle.std.specs.Prelude.{is_ok}
use Rattle.std.proofs.lemmas.{Bool.leb-false, Bool.Decides.nat_tests}
use Rattle.irig_journal.specs.{declared.opening.Opening.Opening, Groups.Floor, Groups.Grouped, Groups.floored, Groups.is_at_floor, Groups.over, History.Step}
use Rattle.irig_journal.specs.{History.step, History.turned_back, History.turned_round, Joining.beyond, Joining.changes_of, Joining.farthest, Joining.joined}
use Rattle.irig_journal.specs.{Machine.Kept, Machine.Machine, Machine.kept, Machine.redone, Machine.undone, Openings.floor_at, Turns.left_by}
use Rattle.irig_saved.specs.declared.change.Change.{Change}
use Rattle.irig_edit.specs.Session.Calls.Call.{Make, Undo, Redo, Go, Begin, End, Abort}
use Rattle.irig_edit.specs.Session.GroupRuns.{AbortGivesBack, EndLeavesOneStep, IsAtMostOneMore, IsInGroup, StaysOpen}
use Rattle.irig_edit.specs.Session.Work.{Work, dropped_since, grouped_in, joined_since, work_over}
use Rattle.irig_edit.specs.{Changes.Delta.gathered, Changes.Delta.turned, Changes.Laws.Groups.turned-gathered, Session.Calls.Call, Edits.Changes.change_by}
use Rattle.irig_edit.specs.{Edits.Refusals.is_at_begin, Session.Machine.Accepts, Session.Machine.Steps, Session.Runs.Answered, Session.Runs.Runs}
use Rattle.irig_edit.specs.{Session.Runs.accepted_of, State.State.State, declared.session.refusal.Refusal.Refusal}
use Rattle.irig_edit.proofs.{SessionLemmas.CallRuns.refused_same, SessionLemmas.MachineSteps.above_begin}

-- where the group was begun, in the steps
abbrev begin_of : Work → Opening
begin_of old = record { steps = length old.past; cursor = old.cursor }

-- work in a group that was begun at other work: the machine of whole states keeps the state of its begin
record InGroup (old w : Work) : Type 0 where
  floor : w.floor ≡ Some (begin_of old)
  began : (grouped_in w).floor ≡ Some (record { height = length old.past; present = kept old.state old.cursor })
  beyond : List (Step Change)
  past : w.past ≡ beyond ++ old.past

-- no step beyond none
none_beyond : (steps : List (Step Change)) → 0 ≡ length steps - length steps
none_beyond steps = omega arith

begun_in : (old start : Work) → Accepts Begin old start → InGroup old start
begun_in old start is =
    let here : Work = record {
      state = old.state;
      cursor = old.cursor;
      past = old.past;
      future = old.future;
      floor = Some (begin_of old);
    } in
    let same : here ≡ start = let steps = is.steps in cc in
    let new : InGroup old here = record {
      floor = refl;
      began = (λ i. Some (record {
        height = length old.past;
        present = kept (left_by turned old.state (changes_of (take (sym (none_beyond old.past) i) old.past))) old.cursor;
      }));
      beyond = [];
      past = refl;
    } in
    subst (λ (w : Work). InGroup old w) same new

-- a move that leaves the floor where it is, and the steps back of the begin
moved_in : (old w v : Work) (more : List (Step Change)) → InGroup old w → v.floor ≡ w.floor → (grouped_in v).floor ≡ (grouped_in w).floor
    → v.past ≡ more ++ old.past → InGroup old v
moved_in old w v more inside floor whole past =
    record { floor = floor ∙ inside.floor; began = whole ∙ inside.began; beyond = more; past = past }

-- a move of the machine alone leaves its floor
over_same : (floor : Option (Floor (Kept State))) (o : Option (Machine (Kept State))) (h : Grouped (Kept State)) → option_map (over floor) o ≡ Some h
    → h.floor ≡ floor
over_same floor None h is = absurd (cc)
over_same floor (Some m) h is = let same : over floor m ≡ h = cc in sym (ap (λ (x : Grouped (Kept State)). x.floor) same)

unless_same : (test : Bool) (floor : Option (Floor (Kept State))) (o : Option (Machine (Kept State))) (h : Grouped (Kept State))
    → (if test then None else option_map (over floor) o) ≡ Some h → h.floor ≡ floor
unless_same true floor o h is = absurd (cc)
unless_same false floor o h is = over_same floor o h is

redone_in : (old w v : Work) → InGroup old w → Accepts Redo w v → InGroup old v
redone_in old w v inside is = by_future w.future is.steps where
  by_future : (future : List (Step Change))
      → option_map (work_over w.floor) (option_map turned_round (turned_back turned w.state w.cursor future w.past)) ≡ Some v → InGroup old v
  by_future [] again = absurd (cc)
  by_future (near ∷ future) again =
      let back = step (turned w.state near.change).1 w.cursor in
      let after : Work = record { state = (turned w.state near.change).0; cursor = near.cursor; past = back ∷ w.past; future = future; floor = w.floor } in
      let same : after ≡ v = cc in
      let whole = over_same (grouped_in w).floor (redone (grouped_in w).machine) (grouped_in v) is.states in
      moved_in old w v (back ∷ inside.beyond) inside (sym (ap (λ (x : Work). x.floor) same)) whole
      (sym (ap (λ (x : Work). x.past) same) ∙ ap (λ (xs : List (Step Change)). back ∷ xs) inside.past)

undone_in : (old w v : Work) → InGroup old w → Accepts Undo w v → InGroup old v
undone_in old w v inside is = by_beyond inside.beyond inside.past where
  whole : (grouped_in v).floor ≡ (grouped_in w).floor
  whole =
      let m = grouped_in w in
      unless_same (is_at_floor m.floor m.machine.past) m.floor (undone m.machine) (grouped_in v) is.states

  above : nat_le (length w.past) (length old.past) ≡ false
  above = sym (ap (λ (f : Option Opening). is_at_begin f w.past) inside.floor) ∙ above_begin w (grouped_in v) is.states

  by_beyond : (more : List (Step Change)) → w.past ≡ more ++ old.past → InGroup old v
  by_beyond [] past =
      let low : nat_le (length old.past) (length old.past) ≡ false =
      sym (ap (λ (xs : List (Step Change)). nat_le (length xs) (length old.past)) past) ∙ above in
      absurd (omega (arith, leb-false (length old.past) (length old.past) low))
  by_beyond (near ∷ more) past =
      let back : option_map (work_over w.floor) (turned_back turned w.state w.cursor (near ∷ (more ++ old.past)) w.future) ≡ Some v =
      sym (ap (λ (xs : List (Step Change)). option_map (work_over w.floor) (turned_back turned w.state w.cursor xs w.future)) past) ∙ is.steps in
      let after : Work = record {
        state = (turned w.state near.change).0;
        cursor = near.cursor;
        past = more ++ old.past;
        future = step (turned w.state near.change).1 w.cursor ∷ w.future;
        floor = w.floor;
      } in
      let same : after ≡ v = cc in
      moved_in old w v more inside (sym (ap (λ (x : Work). x.floor) same)) whole (sym (ap (λ (x : Work). x.past) same))

begun_never : (old w v : Work) → InGroup old w → Accepts Begin w v → InGroup old v
begun_never old w v inside is =
    let none : floored (Some (record { height = length old.past; present = kept old.state old.cursor })) (grouped_in w).machine ≡ Some (grouped_in v) =
    sym (ap (λ (f : Option (Floor (Kept State))). floored f (grouped_in w).machine) inside.began) ∙ is.states in
    absurd (cc)

accepted_in : (call : Call) (old w v : Work) → StaysOpen call → InGroup old w → Accepts call w v → InGroup old v
accepted_in (Make edit) old w v stays inside is =
    let back = step (turned w.state (change_by edit w.state)).1 w.cursor in
    moved_in old w v (back ∷ inside.beyond) inside (ap (λ (x : Work). x.floor) is.steps) (ap (λ (g : Grouped (Kept State)). g.floor) is.states)
    (ap (λ (x : Work). x.past) is.steps ∙ ap (λ (xs : List (Step Change)). back ∷ xs) inside.past)
accepted_in Undo old w v stays inside is = undone_in old w v inside is
accepted_in Redo old w v stays inside is = redone_in old w v inside is
accepted_in (Go i) old w v stays inside is =
    moved_in old w v inside.beyond inside (ap (λ (x : Work). x.floor) is) (ap (λ (x : Work). (grouped_in x).floor) is)
    (ap (λ (x : Work). x.past) is ∙ inside.past)
accepted_in Begin old w v stays inside is = begun_never old w v inside is
accepted_in End old w v stays inside is = absurd stays
accepted_in Abort old w v stays inside is = absurd stays

runs_in : (calls : List Answered) (old w last : Work) → AllByRecursion StaysOpen (accepted_of calls) → InGroup old w → Runs calls w last → InGroup old last
runs_in [] old w last stays inside runs = subst (λ (x : Work). InGroup old x) (sym runs) inside
runs_in (one ∷ rest) old w last stays inside runs =
    by_result one.call w runs.0 one.result (accepted_of rest) stays runs.1.0 inside (λ others there. runs_in rest old runs.0 last others there runs.1.1) where
      by_result : (call : Call) (w between : Work) (r : Result Unit Refusal) (others : List Call)
          → AllByRecursion StaysOpen (if is_ok r then call ∷ others else others) → Steps call w r between → InGroup old w
          → (AllByRecursion StaysOpen others → InGroup old between → InGroup old last) → InGroup old last
      by_result call w between (Ok u) others stays step inside after = after stays.1 (accepted_in call old w between stays.0 inside step.1)
      by_result call w between (Err why) others stays step inside after =
          after stays (subst (λ (x : Work). InGroup old x) (sym (refused_same call w between why step)) inside)

group_in : (calls : List Answered) (old last : Work) → IsInGroup calls old last → InGroup old last
group_in calls old last is = runs_in calls old is.start last is.stays (begun_in old is.start is.begun.1) is.runs

-- the steps since the begin lead to its state
began_at : (old w : Work) → InGroup old w → left_by turned w.state (changes_of (beyond (length old.past) w.past)) ≡ old.state
began_at old w inside =
    let there : Some (floor_at turned w.state w.past (begin_of old)) ≡ Some (record { height = length old.past; present = kept old.state old.cursor }) =
    sym (ap (option_map (floor_at turned w.state w.past)) inside.floor) ∙ inside.began in
    let same : floor_at turned w.state w.past (begin_of old) ≡ record { height = length old.past; present = kept old.state old.cursor } = cc in
    ap (λ (f : Floor (Kept State)). f.present.state) same

drop_front : (xs below : List (Step Change)) (n : ℕ) → n ≡ length xs → drop n (xs ++ below) ≡ below
drop_front [] below zero is = refl
drop_front [] below (suc n) is = absurd (cc)
drop_front (x ∷ xs) below zero is = absurd (cc)
drop_front (x ∷ xs) below (suc n) is = drop_front xs below n (omega arith)

-- and below them are the steps of the begin
farthest_at : (old w : Work) → InGroup old w → farthest (length old.past) w.past ≡ old.past
farthest_at old w inside =
    let below = old.past in
    ap (λ (xs : List (Step Change)). drop (length xs - length below) xs) inside.past
    ∙ drop_front inside.beyond below (length (inside.beyond ++ below) - length below) (omega (arith, length-append inside.beyond below))

pub abort_back : AbortGivesBack
abort_back calls old last new is step =
    let inside = group_in calls old last is in
    let state = began_at old last inside in
    let past = farthest_at old last inside in
    let fell : dropped_since (Some (begin_of old)) last ≡ Some new =
    sym (ap (λ (f : Option Opening). dropped_since f last) inside.floor) ∙ step.1.steps in
    let left : Work = record {
      state = left_by turned last.state (changes_of (beyond (length old.past) last.past));
      cursor = old.cursor;
      past = farthest (length old.past) last.past;
      future = [];
      floor = None;
    } in
    let same : left ≡ new = cc in
    sym same ∙ (λ i. record { state = state i; cursor = old.cursor; past = past i; future = []; floor = None })

pub end_once : EndLeavesOneStep
end_once calls old last new is step = by_test (nat_le (length last.past) (length old.past + 1)) refl closes where
  inside : InGroup old last
  inside = group_in calls old last is

  below : List (Step Change)
  below = old.past

  closes : joined_since (Some (begin_of old)) last ≡ Some new
  closes = sym (ap (λ (f : Option Opening). joined_since f last) inside.floor) ∙ step.1.steps

  work : List (Step Change) → Work
  work past = record { state = last.state; cursor = last.cursor; past = past; future = last.future; floor = None }

  few : (more : List (Step Change)) → last.past ≡ more ++ below → length more ≤ 1 → work last.past ≡ new → IsAtMostOneMore below old.state new
  few [] past short same = inl (sym (ap (λ (w : Work). w.past) same) ∙ past)
  few (near ∷ []) past short same =
      let one : 1 ≡ length (near ∷ below) - length below = omega arith in
      let state : (turned last.state near.change).0 ≡ old.state =
      (λ i. left_by turned last.state (changes_of (take (one i) (near ∷ below))))
      ∙ (ap (λ (xs : List (Step Change)). left_by turned last.state (changes_of (beyond (length below) xs))) (sym past) ∙ began_at old last inside) in
      inr (near, sym (ap (λ (w : Work). w.past) same) ∙ past, ap (λ (w : Work). (turned w.state near.change).0) (sym same) ∙ state)
  few (near ∷ (next ∷ more)) past short same = absurd (omega (arith, short))

  by_test : (test : Bool) → nat_le (length last.past) (length below + 1) ≡ test
      → Some (work (if test then last.past else joined gathered (beyond (length below) last.past) ∷ farthest (length below) last.past)) ≡ Some new
      → IsAtMostOneMore below old.state new
  by_test true low closes =
      let same : work last.past ≡ new = cc in
      let short : length last.past ≤ length below + 1 = grind (arith, nat_tests, low) in
      few inside.beyond inside.past (omega (arith, short, ap length inside.past, length-append inside.beyond below)) same
  by_test false high closes =
      let all = joined gathered (beyond (length below) last.past) in
      let same : work (all ∷ farthest (length below) last.past) ≡ new = cc in
      let state : (turned last.state all.change).0 ≡ old.state =
      ap (λ (p : State × Change). p.0) (turned-gathered last.state (changes_of (beyond (length below) last.past))) ∙ began_at old last inside in
      inr (
        all,
        sym (ap (λ (w : Work). w.past) same) ∙ ap (λ (xs : List (Step Change)). all ∷ xs) (farthest_at old last inside),
        ap (λ (w : Work). (turned w.state all.change).0) (sym same) ∙ state,
      )
