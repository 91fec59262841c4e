-- Several steps made one. This project's own.
use Rattle.std.specs.Prelude.{ℕ, ◌+◌, ◌-◌, List, [], ◌∷◌, drop, if◌then◌else◌, length, map, nat_le}
use Rattle.std.specs.Prelude.{take}
use Rattle.irig_journal.specs.{History.Step, History.step, Turns.CountsAll}

module _ {D : Type 0} where
  -- the changes of steps
  abbrev pub changes_of : List (Step D) → List D
  changes_of steps = map (λ s. s.change) steps

  -- of a list with the nearest first, the steps before its n farthest
  abbrev pub beyond : ℕ → List (Step D) → List (Step D)
  beyond n steps = take (length steps - n) steps

  -- its n farthest
  abbrev pub farthest : ℕ → List (Step D) → List (Step D)
  farthest n steps = drop (length steps - n) steps

  -- the cursor of the farthest step, or this one if there is none
  abbrev pub cursor_of_farthest : ℕ → List (Step D) → ℕ
  cursor_of_farthest cursor [] = cursor
  cursor_of_farthest cursor (near ∷ steps) = cursor_of_farthest near.cursor steps

  -- the one step that does what steps do: it keeps the cursor of the state that the farthest leads
  -- to
  abbrev pub joined : (List D → D) → List (Step D) → Step D
  joined gathered steps = step (gathered (changes_of steps)) (cursor_of_farthest 0 steps)

  -- the list after the steps before its n farthest were joined; one alone stays as it is
  abbrev pub joined_beyond : (List D → D) → ℕ → List (Step D) → List (Step D)
  joined_beyond gathered n steps = if nat_le (length steps) (n + 1)
      then steps else joined gathered (beyond n steps) ∷ farthest n steps

module _ {S D T : Type 0} where
  -- the tally moved by a turn of each step, one after another, the nearest first
  abbrev pub CountsAlong : (S → D → T → T → Type 0) → (S → D → S × D) → S → List (Step D) → T → T
      → Type 0
  CountsAlong counted turned s steps old new = CountsAll counted turned s (changes_of steps) old new
