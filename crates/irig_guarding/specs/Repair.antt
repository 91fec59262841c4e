-- What the lines of a repair do to a session. This project's own.
use Rattle.std.specs.Prelude.{◌≡◌, ◌≤◌, ◌++◌, ℕ, List, [], ◌∷◌, length, map}
use Rattle.irig_edit.specs.{Session.Calls.Call, Session.Session.work_in, Session.Work.grouped_in}
use Rattle.irig_journal.specs.History.{Step}
use Rattle.irig_saved.specs.declared.change.Change.{Change}
use Rattle.irig_lines.specs.{Grammar.Means, Purposes.purpose_of, declared.command.Command.Command}
use Rattle.irig_lines.specs.declared.command.Command.TheVariants as command
use Rattle.irig_lines.specs.declared.purpose.Purpose.{Purpose}
use Rattle.irig_lines.specs.declared.purpose.Purpose.TheVariants as purpose
use Rattle.irig_script.specs.declared.print.reply.Reply.TheVariants.{Silent}
use Rattle.irig_script.specs.{Obey.Machine.Machine, Obey.Obeying.Obeys, Obey.Replies.Calls}
use Rattle.irig_guarding.specs.declared.line.Line.{Line}

-- state, cursor, past and floor are the same; what can be redone may differ
pub record Agrees (one other : Machine) : Type 0 where
  pub state : one.state ≡ other.state
  pub cursor : one.cursor ≡ other.cursor
  pub past : one.past ≡ other.past
  pub floor : one.floor ≡ other.floor

-- a repair may consist of commands for this
abbrev pub Repairs : Purpose → Type 0
Repairs purpose.Edit = Unit {0}
Repairs purpose.Mark = Unit {0}
Repairs purpose.Nothing = ⊥
Repairs purpose.Format = ⊥
Repairs purpose.Question = ⊥
Repairs purpose.Steps = ⊥
Repairs purpose.Text = ⊥
Repairs purpose.End = ⊥

-- a command that a repair may consist of: an edit of pulses or marks
abbrev pub IsRepair : Command → Type 0
IsRepair c = Repairs (purpose_of c)

-- a line that is not too long asks for the command
abbrev pub Asks : Command → List ℕ → Type 0
Asks command line = (length line ≤ 1000) × Means command line

-- the command may be printed: it is an edit, nothing, a begin or an end
abbrev pub IsPrinted : Command → Type 0
IsPrinted command.Nothing = Unit {0}
IsPrinted command.Begin = Unit {0}
IsPrinted command.End = Unit {0}
IsPrinted c = IsRepair c

-- the line is obeyed in silence
abbrev pub Obeyed : Machine → List ℕ → Machine → Type 0
Obeyed old line new =
    (asked : Command) × Asks asked line × IsPrinted asked × Obeys asked old Silent new

-- the lines are, one after the other
abbrev pub ObeyedAll : Machine → List (List ℕ) → Machine → Type 0
ObeyedAll old [] new = new ≡ old
ObeyedAll old (line ∷ lines) new =
    (mid : Machine) × Obeyed old line mid × ObeyedAll mid lines new

-- the second session is in the group that is open in the first, or both are in none: the past of
-- the first is still there
pub record IsBeyond (old new : Machine) : Type 0 where
  pub floor : new.floor ≡ old.floor
  pub begin : (grouped_in (work_in new)).floor ≡ (grouped_in (work_in old)).floor
  pub more : List (Step Change)
  pub past : new.past ≡ more ++ old.past
  pub format : new.state.format ≡ old.state.format

-- a group was begun, the lines were obeyed in it, and it was ended
pub record IsGroup (old : Machine) (lines : List (List ℕ)) (new : Machine) : Type 0 where
  pub first : Machine
  pub last : Machine
  pub begun : Calls Call.Begin old Silent first
  pub obeyed : ObeyedAll first lines last
  pub ended : Calls Call.End last Silent new

-- the bytes of lines
abbrev pub texts : List Line → List (List ℕ)
texts lines = map (λ line. line.bytes.now) lines
