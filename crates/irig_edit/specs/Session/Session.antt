-- What contracts see of a session: its state and its steps, and how many looks at pulses its last
-- change took. This project's own.
use Rattle.std.specs.Prelude.{◌≡◌, ◌≤◌, ℕ, ◌-◌, List, [], ◌∷◌, Option, Some, None, Result, Ok, Err}
use Rattle.std.specs.Prelude.{length}
use Rattle.irig_journal.specs.Joining.{beyond, changes_of}
use Rattle.irig_journal.specs.{declared.opening.Opening.Opening, History.Step}
use Rattle.irig_saved.specs.declared.change.Change.{Change}
use Rattle.irig_edit.specs.Session.Calls.Call.{Make, Undo, Redo, Abort}
use Rattle.irig_edit.specs.{Changes.Delta.gathered, Changes.Looks.Within, Changes.Looks.looks_of}
use Rattle.irig_edit.specs.{Edits.Changes.change_by, Session.Calls.Call, Session.Work.Work}
use Rattle.irig_edit.specs.{State.State.State, declared.session.refusal.Refusal.Refusal}
use Rattle.irig_edit.specs.Session.Machine as machine

-- the state and its cursor; the steps back and on; where the open group was begun; the looks at
-- pulses so far, and those of the last accepted edit, undo, redo or abort
pub record SessionView : Type 0 where
  pub state : State
  pub cursor : ℕ
  pub past : List (Step Change)
  pub future : List (Step Change)
  pub floor : Option Opening
  pub looks : ℕ
  pub last_looks : ℕ

-- a session with the looks so far and those of the last change
abbrev pub session_view : Work → ℕ → ℕ → SessionView
session_view w looks last = record {
  state = w.state;
  cursor = w.cursor;
  past = w.past;
  future = w.future;
  floor = w.floor;
  looks = looks;
  last_looks = last;
}

-- without its looks
abbrev pub work_in : SessionView → Work
work_in v = record {
  state = v.state;
  cursor = v.cursor;
  past = v.past;
  future = v.future;
  floor = v.floor;
}

-- a track that was just opened: the cursor is at the last pulse
abbrev pub started_work : State → Work
started_work s =
    record { state = s; cursor = length s.pulses; past = []; future = []; floor = None }

-- the session of a track that was just opened, with this many looks
abbrev pub started : ℕ → State → SessionView
started looks s = session_view (started_work s) looks 0

-- a call is one step of the machine
abbrev pub Steps : Call → SessionView → Result Unit Refusal → SessionView → Type 0
Steps call old result new = machine.Steps call (work_in old) result (work_in new)

-- no look was made, and the looks of the last change are as before
abbrev pub LooksStay : SessionView → SessionView → Type 0
LooksStay old new = (new.looks ≡ old.looks) × (new.last_looks ≡ old.last_looks)

-- an accepted call shows by how much the looks rose, and that is within a bound; at a refused one
-- the looks stay
abbrev pub LooksWithin : Option ℕ → SessionView → Result Unit Refusal → SessionView → Type 0
LooksWithin most old (Ok _) new = (old.looks ≤ new.looks)
    × (new.last_looks ≡ new.looks - old.looks) × Within most new.last_looks
LooksWithin most old (Err _) new = LooksStay old new

-- the most looks of a turn of the nearest step
abbrev pub looks_of_nearest : State → List (Step Change) → Option ℕ
looks_of_nearest s [] = Some 0
looks_of_nearest s (near ∷ steps) = looks_of s near.change

-- the most looks of turns of the steps since the begin of a group
abbrev pub looks_since : Option Opening → State → List (Step Change) → Option ℕ
looks_since None s past = Some 0
looks_since (Some o) s past = looks_of s (gathered (changes_of (beyond o.steps past)))

-- the bound of an edit is that of the turn of its change, that of an undo and of a redo that of the
-- turn of the step that it takes, and that of an abort is of all the turns back together; at other
-- calls the looks stay
abbrev pub LooksAfter : Call → SessionView → Result Unit Refusal → SessionView → Type 0
LooksAfter (Make edit) old result new =
    LooksWithin (looks_of old.state (change_by edit old.state)) old result new
LooksAfter Undo old result new =
    LooksWithin (looks_of_nearest old.state old.past) old result new
LooksAfter Redo old result new =
    LooksWithin (looks_of_nearest old.state old.future) old result new
LooksAfter Abort old result new =
    LooksWithin (looks_since old.floor old.state old.past) old result new
LooksAfter _ old result new = LooksStay old new
