-- A session within its limits. This project's own.
use Rattle.std.specs.Prelude.{◌≤◌, List, Option, Some, None, length}
use Rattle.irig_journal.specs.Joining.{beyond, changes_of}
use Rattle.irig_journal.specs.{declared.opening.Opening.Opening, History.Step, Turns.left_by}
use Rattle.irig_saved.specs.declared.change.Change.{Change}
use Rattle.irig_edit.specs.State.State.{IsState, State}
use Rattle.irig_edit.specs.{Changes.Delta.turned, Opened.Taken.CanTakeAll, Session.Work.Work}

-- the steps reach down to the begin of a group, and its cursor was within the limits there
abbrev pub IsBegin : State → List (Step Change) → Option Opening → Type 0
IsBegin s past None = Unit {0}
IsBegin s past (Some o) = (o.steps ≤ length past)
    × (o.cursor ≤ length (left_by turned s (changes_of (beyond o.steps past))).pulses)

-- the state and its cursor are within their limits, and each step can be taken in its turn
pub record IsWork (w : Work) : Type 0 where
  pub state : IsState w.state
  pub cursor : w.cursor ≤ length w.state.pulses
  pub past : CanTakeAll w.state w.past
  pub future : CanTakeAll w.state w.future
  pub floor : IsBegin w.state w.past w.floor
