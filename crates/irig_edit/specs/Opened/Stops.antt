-- Where the steps of a saved journal are no longer taken. This project's own.
use Rattle.std.specs.Prelude.{◌≡◌, ◌<◌, ◌^◌, ◌+◌, ℕ, List, length, reverse, take}
use Rattle.irig_saved.specs.declared.step.SavedStep.{SavedStep}
use Rattle.irig_saved.specs.{SavedText.steps_lines, declared.change.Change.Change}
use Rattle.irig_journal.specs.History.{History}
use Rattle.irig_edit.specs.Opened.Taken.{CanBegin, CanTakeAll, StopsAfter, steps_of}
use Rattle.irig_edit.specs.declared.opened.taking.NotTaken.{NotTaken}
use Rattle.irig_edit.specs.declared.opened.taking.NotTaken.TheVariants.{At, Memory}
use Rattle.irig_edit.specs.{State.State.State, Opened.Walk.walk}

-- this many lines are before the step that is not taken, and this many up to its end
pub record StopsAt (s : State) (saves : List SavedStep) (before behind : ℕ) : Type 0 where
  pub count : ℕ
  pub stops : StopsAfter s saves count
  pub before_are : before ≡ length (steps_lines (take count saves))
  pub behind_are : behind ≡ length (steps_lines (take (count + 1) saves))
  pub few : before < 2 ^ 63

-- the step that is not taken; memory runs out only once the steps have begun
abbrev pub IsNotTaken : State → List SavedStep → NotTaken → Type 0
IsNotTaken s saves (At before behind) = StopsAt s saves before behind
IsNotTaken s saves Memory = CanBegin s (steps_of saves)

-- saved steps back and forward can be taken, and are the past and the future of the state
pub record HasTaken (old : History State Change) (past future : List SavedStep)
    (new : History State Change) : Type 0 where
  pub back : CanTakeAll old.state (steps_of (reverse past))
  pub on : CanTakeAll old.state (steps_of future)
  pub stands : new ≡ walk old.state old.cursor (steps_of (reverse past)) (steps_of future)
