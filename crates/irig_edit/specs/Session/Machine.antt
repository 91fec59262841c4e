-- The main statement: a call of the session is one step of the machine that keeps every former
-- state whole. It says with it by what steps that is done. A floor is where the open group was
-- begun. This project's own.
use Rattle.std.specs.Prelude.{◌≡◌, ℕ, List, Option, Some, None, Result, Ok, Err, replicate}
use Rattle.irig_journal.specs.Groups.{Grouped, aborted, begun, ended, recorded_over, redone_over}
use Rattle.irig_journal.specs.Groups.{undone_over}
use Rattle.irig_journal.specs.Machine.{Kept, kept}
use Rattle.irig_edit.specs.Session.Calls.Call.{Make, Undo, Redo, Go, Begin, End, Abort}
use Rattle.irig_edit.specs.Edits.Edits.{IsAfter, cursor_after}
use Rattle.irig_edit.specs.Session.Work.{Work, at_cursor, dropped_since, floored_here, gone_back}
use Rattle.irig_edit.specs.Session.Work.{gone_on, grouped_in, joined_since, made}
use Rattle.irig_edit.specs.declared.session.refusal.Refusal.{Refusal}
use Rattle.irig_edit.specs.declared.session.refusal.Refusal.TheVariants.{OutOfMemory}
use Rattle.irig_edit.specs.{State.State.State, Session.Calls.Call, Session.Calls.Edit}
use Rattle.irig_edit.specs.{Changes.Delta.Fits, Edits.Changes.change_by, Edits.Refusals.refusal_of}

-- no mark is set
abbrev pub NoMarks : List (Option ℕ) → Type 0
NoMarks marks = marks ≡ replicate 26 None

-- an accepted edit: the present goes to the past, the state after the edit becomes the present, and
-- the future is empty; and the edit's change, which can be made, makes the step
pub record Edits (edit : Edit) (old new : Work) : Type 0 where
  pub after : IsAfter edit old.state new.state
  pub cursor : new.cursor ≡ cursor_after edit old.cursor new.state.pulses
  pub fits : Fits old.state (change_by edit old.state)
  pub states : grouped_in new ≡ recorded_over (grouped_in old) (kept new.state new.cursor)
  pub steps : new ≡ made (change_by edit old.state) new.cursor old

-- a move of the machine of whole states, and of the steps
pub record Moves (whole : Grouped (Kept State) → Option (Grouped (Kept State)))
    (along : Work → Option Work) (old new : Work) : Type 0 where
  pub states : whole (grouped_in old) ≡ Some (grouped_in new)
  pub steps : along old ≡ Some new

-- an accepted call
abbrev pub Accepts : Call → Work → Work → Type 0
Accepts (Make edit) old new = Edits edit old new
Accepts Undo old new = Moves undone_over gone_back old new
Accepts Redo old new = Moves redone_over gone_on old new
Accepts (Go i) old new = new ≡ at_cursor i old
Accepts Begin old new = Moves begun floored_here old new
Accepts End old new = Moves ended (joined_since old.floor) old new
Accepts Abort old new = Moves aborted (dropped_since old.floor) old new

-- memory can run out at an edit alone, which asks for all that its undo and redo take, and all that
-- the end of its group takes
abbrev pub MayWantMemory : Call → Type 0
MayWantMemory (Make edit) = Unit {0}
MayWantMemory call = ⊥

-- one step: accepted if no refusal holds; else the first refusal, or out of memory if none
-- holds and the call takes memory, and nothing moved
abbrev pub Steps : Call → Work → Result Unit Refusal → Work → Type 0
Steps call old (Ok _) new = (refusal_of call old ≡ None) × Accepts call old new
Steps call old (Err OutOfMemory) new =
    (refusal_of call old ≡ None) × (new ≡ old) × MayWantMemory call
Steps call old (Err refusal) new = (refusal_of call old ≡ Some refusal) × (new ≡ old)
