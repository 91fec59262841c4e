-- What a group leaves, whatever is done in it. This project's own.
use Rattle.std.specs.Prelude.{◌≡◌, ◌⊎◌, List, [], ◌∷◌, Ok, None}
use Rattle.std.specs.List.{AllByRecursion}
use Rattle.irig_journal.specs.History.{Step}
use Rattle.irig_saved.specs.declared.change.Change.{Change}
use Rattle.irig_edit.specs.Session.Calls.Call.{Begin, End, Abort}
use Rattle.irig_edit.specs.Session.Runs.{Answered, Runs, accepted_of}
use Rattle.irig_edit.specs.{Changes.Delta.turned, Session.Calls.Call, Session.Work.Work}
use Rattle.irig_edit.specs.{Session.Machine.Steps, State.State.State}

-- a call that is accepted leaves an open group open
abbrev pub StaysOpen : Call → Type 0
StaysOpen End = ⊥
StaysOpen Abort = ⊥
StaysOpen _ = Unit {0}

-- after a begin any calls were made, and no end or abort among them was accepted
pub record IsInGroup (calls : List Answered) (old last : Work) : Type 0 where
  pub start : Work
  pub begun : Steps Begin old (Ok tt) start
  pub stays : AllByRecursion StaysOpen (accepted_of calls)
  pub runs : Runs calls start last

-- the steps back are these, or these and one more, which leads to this state
abbrev pub IsAtMostOneMore : List (Step Change) → State → Work → Type 0
IsAtMostOneMore below s new = (new.past ≡ below)
    ⊎ ((last : Step Change) × (new.past ≡ last ∷ below) × ((turned new.state last.change).0 ≡ s))

-- an abort then gives back past and present of the begin
abbrev pub AbortGivesBack : Type 0
AbortGivesBack = (calls : List Answered) (old last new : Work)
    → IsInGroup calls old last → Steps Abort last (Ok tt) new
    → new ≡ record {
      state = old.state;
      cursor = old.cursor;
      past = old.past;
      future = [];
      floor = None;
    }

-- an end leaves one more step or none: it leads to the state of the begin
abbrev pub EndLeavesOneStep : Type 0
EndLeavesOneStep = (calls : List Answered) (old last new : Work)
    → IsInGroup calls old last → Steps End last (Ok tt) new
    → IsAtMostOneMore old.past old.state new
