-- What repairs leave to redo: one that is dropped can't be redone. This project's own.
use Rattle.std.specs.Prelude.{◌≡◌, ◌<◌, ◌⊎◌, ◌++◌, [], ◌∷◌, List, length}
use Rattle.irig_journal.specs.{History.Step, History.states_along, Machine.Kept, Machine.kept}
use Rattle.irig_saved.specs.declared.change.Change.{Change}
use Rattle.irig_edit.specs.{Changes.Delta.turned, Session.Session.work_in, Session.Work.Work}
use Rattle.irig_edit.specs.State.State.{State}
use Rattle.irig_script.specs.{Obey.Machine.Machine}
use Rattle.irig_guarding.specs.Repair.{Agrees}

-- what can be redone is what could be, or nothing
abbrev pub RedoesNoMore : Machine → Machine → Type 0
RedoesNoMore old new = (new.future ≡ old.future) ⊎ (new.future ≡ [])

-- all is as it was, and nothing can be redone that could not be
pub record IsUndone (old new : Machine) : Type 0 where
  pub same : Agrees new old
  pub redo : RedoesNoMore old new

-- steps were made: more lead back than did, and nothing can be redone
abbrev pub HasMade : Machine → Machine → Type 0
HasMade old new = (length old.past < length new.past) × (new.future ≡ [])

-- no step was made, and all is as it was, also what can be redone; or some were
abbrev pub IsSameOrMade : Machine → Machine → Type 0
IsSameOrMade old new = (work_in new ≡ work_in old) ⊎ HasMade old new

-- the state of a session and those that its steps lead back to, each with its cursor
abbrev pub states_in : Work → List (Kept State)
states_in w = kept w.state w.cursor ∷ states_along turned w.state w.past

-- the steps of a session lead back to another one
pub record LeadsBackTo (old new : Machine) : Type 0 where
  pub more : List (Step Change)
  pub past : new.past ≡ more ++ old.past
  pub later : List (Kept State)
  pub states : states_in (work_in new) ≡ later ++ states_in (work_in old)
