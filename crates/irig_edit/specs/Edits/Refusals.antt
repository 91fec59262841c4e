-- When a call is refused: the tests of each call in their order, the first that holds being
-- answered. Out of memory may be answered if none of them holds. This project's own.
use Rattle.std.specs.Prelude.{Bool, true, false, not, ◌&&◌, nat_le, nat_lt, List, [], ◌∷◌, Option}
use Rattle.std.specs.Prelude.{Some, None, if◌then◌else◌, is_some, length}
use Rattle.irig_codes.specs.Width.{nominal_of}
use Rattle.irig_journal.specs.{declared.opening.Opening.Opening, History.Step}
use Rattle.irig_saved.specs.declared.change.Change.{Change}
use Rattle.irig_moment.specs.Generated.{starts_in}
use Rattle.irig_edit.specs.Edits.Conditions.{is_range, are_pulses, is_touched, is_inside, is_full}
use Rattle.irig_edit.specs.Edits.Conditions.{is_overfull, meets_next, leaves, meets, fall_at}
use Rattle.irig_edit.specs.Edits.Conditions.{are_frames, is_met, are_too_many, is_wide}
use Rattle.irig_edit.specs.Session.Calls.Call.{Make, Undo, Redo, Go, Begin, End, Abort}
use Rattle.irig_edit.specs.Session.Calls.Edit.{Insert, Delete, Split, Join, Shift, Invert, Force}
use Rattle.irig_edit.specs.Session.Calls.Edit.{Regen, SetMark}
use Rattle.irig_edit.specs.declared.session.refusal.Refusal.TheVariants.{OutOfRange, NoPulse}
use Rattle.irig_edit.specs.declared.session.refusal.Refusal.TheVariants.{Touching, NotInside}
use Rattle.irig_edit.specs.declared.session.refusal.Refusal.TheVariants.{TooMany, BadTime}
use Rattle.irig_edit.specs.declared.session.refusal.Refusal.TheVariants.{BadControl, NothingToUndo}
use Rattle.irig_edit.specs.declared.session.refusal.Refusal.TheVariants.{NothingToRedo, GroupOpen}
use Rattle.irig_edit.specs.declared.session.refusal.Refusal.TheVariants.{NoGroup, GroupFloor}
use Rattle.irig_edit.specs.{State.State.State, Session.Calls.Call, Session.Calls.Edit}
use Rattle.irig_edit.specs.{declared.session.refusal.Refusal.Refusal, Session.Work.Work}

-- the first whose test holds
abbrev pub first_holding : List (Bool × Refusal) → Option Refusal
first_holding [] = None
first_holding (test ∷ tests) = if test.0 then Some test.1 else first_holding tests

-- the tests of an edit in their order
abbrev pub tests_of : Edit → State → List (Bool × Refusal)
tests_of (Insert a b) s =
    (not (is_range a b s), OutOfRange) ∷ (is_touched a b s, Touching) ∷ (is_full s, TooMany) ∷ []
tests_of (Delete i j) s = (not (are_pulses i j s), NoPulse) ∷ []
tests_of (Split i a b) s =
    (not (is_range a b s), OutOfRange) ∷ (not (are_pulses i i s), NoPulse)
    ∷ (not (is_inside i a b s), NotInside) ∷ (is_full s, TooMany) ∷ []
tests_of (Join i j) s = (not (are_pulses i j s && nat_lt i j), NoPulse) ∷ []
tests_of (Shift i j d) s =
    (are_pulses i j s && leaves i j d s, OutOfRange) ∷ (not (are_pulses i j s), NoPulse)
    ∷ (meets i j d s, Touching) ∷ []
tests_of (Invert a b) s = (not (is_range a b s), OutOfRange) ∷ (is_overfull a b s, TooMany) ∷ []
tests_of (Force i e) s =
    (are_pulses i i s && nat_lt s.micros (fall_at i (nominal_of s.format e) s), OutOfRange)
    ∷ (not (are_pulses i i s), NoPulse)
    ∷ (meets_next i (fall_at i (nominal_of s.format e) s) s, Touching) ∷ []
tests_of (Regen start frames moment control) s =
    (not (are_frames start frames s), OutOfRange) ∷ (is_met start s, Touching)
    ∷ (are_too_many start frames s, TooMany) ∷ (not (starts_in s.format moment), BadTime)
    ∷ (is_wide control s, BadControl) ∷ []
tests_of (SetMark letter (Some t)) s = (nat_lt s.micros t, OutOfRange) ∷ []
tests_of _ s = []

-- whether a list has no item
abbrev pub is_empty : {S : Type 0} → List S → Bool
is_empty [] = true
is_empty (x ∷ xs) = false

-- no step is left that was made since the begin of the open group
abbrev pub is_at_begin : Option Opening → List (Step Change) → Bool
is_at_begin None past = false
is_at_begin (Some o) past = nat_le (length past) o.steps

-- the refusal of a call
abbrev pub refusal_of : Call → Work → Option Refusal
refusal_of (Make edit) w = first_holding (tests_of edit w.state)
refusal_of Undo w =
    first_holding ((is_empty w.past, NothingToUndo)
    ∷ (is_at_begin w.floor w.past, GroupFloor) ∷ [])
refusal_of Redo w = first_holding ((is_empty w.future, NothingToRedo) ∷ [])
refusal_of (Go i) w = first_holding ((not (are_pulses i i w.state), NoPulse) ∷ [])
refusal_of Begin w = first_holding ((is_some w.floor, GroupOpen) ∷ [])
refusal_of End w = first_holding ((not (is_some w.floor), NoGroup) ∷ [])
refusal_of Abort w = first_holding ((not (is_some w.floor), NoGroup) ∷ [])
