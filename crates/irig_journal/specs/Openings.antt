-- The begin of the open group of a journal. This project's own.
use Rattle.std.specs.Prelude.{ℕ, ◌≤◌, List, Option, Some, None}
use Rattle.irig_journal.specs.Joining.{beyond, changes_of}
use Rattle.irig_journal.specs.{declared.opening.Opening.Opening, Groups.Floor, History.Step}
use Rattle.irig_journal.specs.{Machine.Kept, Machine.kept, Turns.left_by}

-- the past is no longer than it was at the begin of the open group
abbrev pub AtFloor : Option Opening → ℕ → Type 0
AtFloor None long = ⊥
AtFloor (Some opening) long = long ≤ opening.steps

-- the past is at least as long as it was at the begin of the open group
abbrev pub StandsOnFloor : Option Opening → ℕ → Type 0
StandsOnFloor None long = Unit {0}
StandsOnFloor (Some opening) long = opening.steps ≤ long

module _ {S D : Type 0} where
  -- the floor of a group begun here, at a state with these steps back: the steps after it lead to
  -- the state at the begin
  abbrev pub floor_at : (S → D → S × D) → S → List (Step D) → Opening → Floor (Kept S)
  floor_at turned s past opening = record {
    height = opening.steps;
    present = kept (left_by turned s (changes_of (beyond opening.steps past))) opening.cursor;
  }
