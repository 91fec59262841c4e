-- A session stays within its limits along its steps.
use Rattle.std.proofs.Common.{◌≡◌, ◌≤◌, ◌-◌, ℕ, suc, zero, Bool, true, false, List, [], ◌∷◌, length, nat_le, drop, take, Option, Some, None, option_map}
use Rattle.std.proofs.Common.{if◌then◌else◌, ap, sym, subst, arith, ◌+◌}
use Rattle.std.proofs.lemmas.Bool.{leb-false}
use Rattle.irig_journal.specs.{declared.opening.Opening.Opening, History.Step, History.step, History.turned_back, History.turned_round, Joining.beyond}
use Rattle.irig_journal.specs.{Joining.changes_of, Joining.cursor_of_farthest, Joining.farthest, Joining.joined, Turns.FitAll, Turns.left_by}
use Rattle.irig_saved.specs.declared.change.Change.{Change}
use Rattle.irig_edit.specs.Changes.Laws.Delta.{Fits-turned, IsState-turned, turned-turned}
use Rattle.irig_edit.specs.Changes.Laws.Groups.{Fits-gathered, turned-gathered}
use Rattle.irig_edit.specs.Session.Work.{Work, at_cursor, dropped_since, floored_here, gone_back, gone_on, joined_since, made, work_over}
use Rattle.irig_edit.specs.{Changes.Delta.Fits, Changes.Delta.gathered, Changes.Delta.turned, Edits.Refusals.is_at_begin, Opened.Taken.CanTakeAll}
use Rattle.irig_edit.specs.{Session.Limits.IsBegin, Session.Limits.IsWork, State.State.IsState, State.State.State}

-- what leads back from a change gives back the state
pub state_back : (s : State) (d : Change) → IsState s → Fits s d → (turned (turned s d).0 (turned s d).1).0 ≡ s
state_back s d is fits = ap (λ (p : State × Change). p.0) (turned-turned s d is fits)

-- the step back from a change can be taken, and then the steps from before it
pub CanTakeAll-back : (s : State) (d : Change) (cursor : ℕ) (steps : List (Step Change)) → IsState s → Fits s d → cursor ≤ length s.pulses
    → CanTakeAll s steps → CanTakeAll (turned s d).0 (step (turned s d).1 cursor ∷ steps)
CanTakeAll-back s d cursor steps is fits within all =
    let law = sym (state_back s d is fits) in (
      record { fits = Fits-turned s d is fits; cursor = subst (λ (t : State). cursor ≤ length t.pulses) law within },
      subst (λ (t : State). CanTakeAll t steps) law all,
    )

-- and the begin of a group stays where it is
IsBegin-back : (s : State) (d : Change) (cursor : ℕ) (steps : List (Step Change)) (floor : Option Opening) → IsState s → Fits s d
    → IsBegin s steps floor → IsBegin (turned s d).0 (step (turned s d).1 cursor ∷ steps) floor
IsBegin-back s d cursor steps None is fits stands = tt
IsBegin-back s d cursor steps (Some o) is fits stands =
    let more : suc (length steps - o.steps) ≡ suc (length steps) - o.steps = omega (arith, stands.0) in
    let after = (turned s d).0 in
    let near = step (turned s d).1 cursor in (
      omega (arith, stands.0),
      subst (λ n. o.cursor ≤ length (left_by turned after (changes_of (take n (near ∷ steps)))).pulses) more
          (subst (λ (t : State). o.cursor ≤ length (left_by turned t (changes_of (take (length steps - o.steps) steps))).pulses)
          (sym (state_back s d is fits)) stands.1),
    )

-- steps that were taken leave a state, and the others can be taken there
pub state_along : (n : ℕ) (s : State) (steps : List (Step Change)) → IsState s → CanTakeAll s steps
    → IsState (left_by turned s (changes_of (take n steps)))
state_along zero s steps is all = is
state_along (suc n) s [] is all = is
state_along (suc n) s (near ∷ steps) is all = state_along n (turned s near.change).0 steps (IsState-turned s near.change is all.0.fits) all.1

rest_along : (n : ℕ) (s : State) (steps : List (Step Change)) → CanTakeAll s steps
    → CanTakeAll (left_by turned s (changes_of (take n steps))) (drop n steps)
rest_along zero s steps all = all
rest_along (suc n) s [] all = tt
rest_along (suc n) s (near ∷ steps) all = rest_along n (turned s near.change).0 steps all.1

fit_along : (n : ℕ) (s : State) (steps : List (Step Change)) → CanTakeAll s steps → FitAll Fits turned s (changes_of (take n steps))
fit_along zero s steps all = tt
fit_along (suc n) s [] all = tt
fit_along (suc n) s (near ∷ steps) all = (all.0.fits, fit_along n (turned s near.change).0 steps all.1)

cursor_along : (n cursor : ℕ) (s : State) (steps : List (Step Change)) → cursor ≤ length s.pulses → CanTakeAll s steps
    → cursor_of_farthest cursor (take n steps) ≤ length (left_by turned s (changes_of (take n steps))).pulses
cursor_along zero cursor s steps within all = within
cursor_along (suc n) cursor s [] within all = within
cursor_along (suc n) cursor s (near ∷ steps) within all = cursor_along n near.cursor (turned s near.change).0 steps all.0.cursor all.1

-- so several steps that are made one can be taken
CanTakeAll-joined : (n : ℕ) (s : State) (steps : List (Step Change)) → CanTakeAll s steps
    → CanTakeAll s (joined gathered (take n steps) ∷ drop n steps)
CanTakeAll-joined n s steps all =
    let ds = changes_of (take n steps) in
    let turn = sym (ap (λ (p : State × Change). p.0) (turned-gathered s ds)) in (
      record {
        fits = Fits-gathered s ds (fit_along n s steps all);
        cursor = subst (λ (t : State). cursor_of_farthest 0 (take n steps) ≤ length t.pulses) turn (cursor_along n 0 s steps (omega arith) all);
      },
      subst (λ (t : State). CanTakeAll t (drop n steps)) turn (rest_along n s steps all),
    )

-- after a change
pub IsWork-made : (w : Work) (d : Change) (cursor : ℕ) → IsWork w → Fits w.state d → cursor ≤ length (turned w.state d).0.pulses
    → IsWork (made d cursor w)
IsWork-made w d cursor is fits within = record {
  state = IsState-turned w.state d is.state fits;
  cursor = within;
  past = CanTakeAll-back w.state d w.cursor w.past is.state fits is.cursor is.past;
  future = tt;
  floor = IsBegin-back w.state d w.cursor w.past w.floor is.state fits is.floor;
}

-- after a step back that goes not beyond the begin of the open group
pub IsWork-back : (w v : Work) → IsWork w → is_at_begin w.floor w.past ≡ false → gone_back w ≡ Some v → IsWork v
IsWork-back w v is above back = by_past w.past is.past w.floor is.floor above back where
  deeper : (near : Step Change) (past : List (Step Change)) (floor : Option Opening) → IsBegin w.state (near ∷ past) floor
      → is_at_begin floor (near ∷ past) ≡ false → IsBegin (turned w.state near.change).0 past floor
  deeper near past None stands above = tt
  deeper near past (Some o) stands above =
      let long = leb-false (suc (length past)) o.steps above in
      let count : suc (length past) - o.steps ≡ suc (length past - o.steps) = omega (arith, long) in (
        omega (arith, long),
        subst (λ n. o.cursor ≤ length (left_by turned w.state (changes_of (take n (near ∷ past)))).pulses) count stands.1,
      )

  by_past : (past : List (Step Change)) → CanTakeAll w.state past → (floor : Option Opening) → IsBegin w.state past floor → is_at_begin floor past ≡ false
      → option_map (work_over floor) (turned_back turned w.state w.cursor past w.future) ≡ Some v → IsWork v
  by_past [] all floor stands above back = absurd (cc)
  by_past (near ∷ past) all floor stands above back =
      let s = w.state in
      let d = near.change in
      let after : Work = record {
        state = (turned s d).0;
        cursor = near.cursor;
        past = past;
        future = step (turned s d).1 w.cursor ∷ w.future;
        floor = floor;
      } in
      let same : after ≡ v = cc in
      let new : IsWork after = record {
        state = IsState-turned s d is.state all.0.fits;
        cursor = all.0.cursor;
        past = all.1;
        future = CanTakeAll-back s d w.cursor w.future is.state all.0.fits is.cursor is.future;
        floor = deeper near past floor stands above;
      } in
      subst (λ (x : Work). IsWork x) same new

-- after a step on
pub IsWork-on : (w v : Work) → IsWork w → gone_on w ≡ Some v → IsWork v
IsWork-on w v is again = by_future w.future is.future again where
  by_future : (future : List (Step Change)) → CanTakeAll w.state future
      → option_map (work_over w.floor) (option_map turned_round (turned_back turned w.state w.cursor future w.past)) ≡ Some v → IsWork v
  by_future [] all again = absurd (cc)
  by_future (near ∷ future) all again =
      let s = w.state in
      let d = near.change in
      let after : Work = record {
        state = (turned s d).0;
        cursor = near.cursor;
        past = step (turned s d).1 w.cursor ∷ w.past;
        future = future;
        floor = w.floor;
      } in
      let same : after ≡ v = cc in
      let new : IsWork after = record {
        state = IsState-turned s d is.state all.0.fits;
        cursor = all.0.cursor;
        past = CanTakeAll-back s d w.cursor w.past is.state all.0.fits is.cursor is.past;
        future = all.1;
        floor = IsBegin-back s d w.cursor w.past w.floor is.state all.0.fits is.floor;
      } in
      subst (λ (x : Work). IsWork x) same new

-- at another cursor
pub IsWork-at : (w : Work) (i : ℕ) → IsWork w → i ≤ length w.state.pulses → IsWork (at_cursor i w)
IsWork-at w i is within =
    record { state = is.state; cursor = within; past = is.past; future = is.future; floor = is.floor }

-- after a begin
pub IsWork-begun : (w v : Work) → IsWork w → floored_here w ≡ Some v → IsWork v
IsWork-begun w v is begun =
    let after : Work = record {
      state = w.state;
      cursor = w.cursor;
      past = w.past;
      future = w.future;
      floor = Some (record { steps = length w.past; cursor = w.cursor });
    } in
    let same : after ≡ v = cc in
    let none : 0 ≡ length w.past - length w.past = omega arith in
    let new : IsWork after = record {
      state = is.state;
      cursor = is.cursor;
      past = is.past;
      future = is.future;
      floor = (omega arith, subst (λ n. w.cursor ≤ length (left_by turned w.state (changes_of (take n w.past))).pulses) none is.cursor);
    } in
    subst (λ (x : Work). IsWork x) same new

-- after an end
pub IsWork-ended : (w v : Work) → IsWork w → joined_since w.floor w ≡ Some v → IsWork v
IsWork-ended w v is closes = by_floor w.floor closes where
  by_test : (n : ℕ) (test : Bool)
      → CanTakeAll w.state (if test then w.past else joined gathered (beyond n w.past) ∷ farthest n w.past)
  by_test n true = is.past
  by_test n false = CanTakeAll-joined (length w.past - n) w.state w.past is.past

  by_floor : (floor : Option Opening) → joined_since floor w ≡ Some v → IsWork v
  by_floor None closes = absurd (cc)
  by_floor (Some o) closes =
      let past = if nat_le (length w.past) (o.steps + 1) then w.past else joined gathered (beyond o.steps w.past) ∷ farthest o.steps w.past in
      let after : Work = record { state = w.state; cursor = w.cursor; past = past; future = w.future; floor = None } in
      let same : after ≡ v = cc in
      let new : IsWork after = record {
        state = is.state;
        cursor = is.cursor;
        past = by_test o.steps (nat_le (length w.past) (o.steps + 1));
        future = is.future;
        floor = tt;
      } in
      subst (λ (x : Work). IsWork x) same new

-- after an abort
pub IsWork-aborted : (w v : Work) → IsWork w → dropped_since w.floor w ≡ Some v → IsWork v
IsWork-aborted w v is fell = by_floor w.floor is.floor fell where
  by_floor : (floor : Option Opening) → IsBegin w.state w.past floor → dropped_since floor w ≡ Some v → IsWork v
  by_floor None stands fell = absurd (cc)
  by_floor (Some o) stands fell =
      let n = length w.past - o.steps in
      let after : Work = record {
        state = left_by turned w.state (changes_of (take n w.past));
        cursor = o.cursor;
        past = drop n w.past;
        future = [];
        floor = None;
      } in
      let same : after ≡ v = cc in
      let new : IsWork after = record {
        state = state_along n w.state w.past is.state is.past;
        cursor = stands.1;
        past = rest_along n w.state w.past is.past;
        future = tt;
        floor = tt;
      } in
      subst (λ (x : Work). IsWork x) same new
