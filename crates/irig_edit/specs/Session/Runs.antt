-- Calls one after the other. This project's own.
use Rattle.std.specs.Prelude.{◌≡◌, ℕ, List, [], ◌∷◌, Result, Ok, is_ok, replicate, if◌then◌else◌}
use Rattle.irig_journal.specs.History.{step}
use Rattle.irig_edit.specs.Session.Calls.Call.{Make, Undo, Redo}
use Rattle.irig_edit.specs.declared.session.refusal.Refusal.{Refusal}
use Rattle.irig_edit.specs.{Edits.Changes.change_by, Session.Calls.Call, Session.Calls.Edit}
use Rattle.irig_edit.specs.{Session.Machine.Steps, Session.Limits.IsWork, Session.Work.Work}

-- a call, and what it answered
pub record Answered : Type 0 where
  pub call : Call
  pub result : Result Unit Refusal

-- the calls, one after the other, lead from one machine to another
abbrev pub Runs : List Answered → Work → Work → Type 0
Runs [] old new = new ≡ old
Runs (one ∷ rest) old new =
    (between : Work) × (Steps one.call old one.result between × Runs rest between new)

-- the calls that were accepted
abbrev pub accepted_of : List Answered → List Call
accepted_of [] = []
accepted_of (one ∷ rest) =
    if is_ok one.result then one.call ∷ accepted_of rest else accepted_of rest

-- what calls answer determines the machine that they leave
abbrev pub OneOutcome : Type 0
OneOutcome = (calls : List Answered) (old new other : Work)
    → Runs calls old new → Runs calls old other → new ≡ other

-- an accepted edit and then an accepted undo: past and present are as before, and the edit can be
-- redone
abbrev pub EditIsTakenBack : Type 0
EditIsTakenBack = (edit : Edit) (old between new : Work) → IsWork old
    → Steps (Make edit) old (Ok tt) between → Steps Undo between (Ok tt) new
    → new ≡ record {
      state = old.state;
      cursor = old.cursor;
      past = old.past;
      future = step (change_by edit old.state) between.cursor ∷ [];
      floor = old.floor;
    }

-- k accepted undos and then k accepted redos, refused calls among them, give back past, present,
-- future and floor
abbrev pub UndosAreMadeAgain : Type 0
UndosAreMadeAgain = (k : ℕ) (undos redos : List Answered) (old between new : Work)
    → accepted_of undos ≡ replicate k Undo → accepted_of redos ≡ replicate k Redo
    → IsWork old → Runs undos old between → Runs redos between new → new ≡ old
