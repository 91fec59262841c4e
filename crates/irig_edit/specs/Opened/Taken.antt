-- The steps of a saved journal, taken one after another from a state. This project's own.
use Rattle.std.specs.Prelude.{◌≤◌, ◌<◌, ◌+◌, ℕ, List, [], ◌∷◌, length, map, take}
use Rattle.irig_journal.specs.History.{Step, step}
use Rattle.irig_saved.specs.{declared.step.SavedStep.SavedStep, declared.change.Change.Change}
use Rattle.irig_saved.specs.declared.single.Single.{Single}
use Rattle.irig_edit.specs.Changes.Delta.{Fits, singles_of, turned}
use Rattle.irig_edit.specs.{Changes.Single.FitsSingle, State.State.State}

-- a saved step, as a session keeps it
abbrev pub step_of : SavedStep → Step Change
step_of s = step s.change s.cursor

-- and several
abbrev pub steps_of : List SavedStep → List (Step Change)
steps_of saves = map step_of saves

-- a step can be taken: its change can be made, and its cursor is the number of a pulse of the state
-- that it leads to, or 0
pub record CanTake (s : State) (step : Step Change) : Type 0 where
  pub fits : Fits s step.change
  pub cursor : step.cursor ≤ length (turned s step.change).0.pulses

-- each step can be taken on the state that those before it leave
abbrev pub CanTakeAll : State → List (Step Change) → Type 0
CanTakeAll s [] = Unit {0}
CanTakeAll s (step ∷ steps) = CanTake s step × CanTakeAll (turned s step.change).0 steps

-- of saved steps this many can be taken, and then one that can't be
pub record StopsAfter (s : State) (saves : List SavedStep) (count : ℕ) : Type 0 where
  pub there : count < length saves
  pub taken : CanTakeAll s (steps_of (take count saves))
  pub refused : CanTakeAll s (steps_of (take (count + 1) saves)) → ⊥

-- the first of single changes can be made, if there is one
abbrev pub FirstFits : State → List Single → Type 0
FirstFits s [] = Unit {0}
FirstFits s (single ∷ singles) = FitsSingle s single

-- there is a step, and the first single change of the first one can be made: memory is taken for it
abbrev pub CanBegin : State → List (Step Change) → Type 0
CanBegin s [] = ⊥
CanBegin s (step ∷ steps) = FirstFits s (singles_of step.change)
