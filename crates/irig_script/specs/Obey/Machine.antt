-- What a run works on: the machine of whole states that a session is. This project's own.
use Rattle.irig_journal.specs.Machine.{Kept, kept}
use Rattle.irig_edit.specs.{Session.Session.SessionView, State.State.State}

-- the former states, the present one and those undone, each with its cursor
abbrev pub Machine : Type 0
Machine = SessionView

-- the present state with its cursor
abbrev pub present_in : Machine → Kept State
present_in m = kept m.state m.cursor
