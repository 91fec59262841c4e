-- A state that continues along steps. This project's own.
use Rattle.std.specs.Prelude.{ℕ, List, [], ◌∷◌}
use Rattle.irig_journal.specs.History.{History, Step, step}
use Rattle.irig_saved.specs.declared.change.Change.{Change}
use Rattle.irig_edit.specs.{Changes.Delta.turned, State.State.State}

-- a state with its cursor and its steps
abbrev pub walk : State → ℕ → List (Step Change) → List (Step Change) → History State Change
walk s cursor past future = record { state = s; cursor = cursor; past = past; future = future }

-- a change made, with the cursor of the state that it leads back to
abbrev pub changed : History State Change → Change → History State Change
changed h d =
    walk (turned h.state d).0 h.cursor (step (turned h.state d).1 h.cursor ∷ h.past) []

-- a step taken
abbrev pub gone_on : History State Change → Step Change → History State Change
gone_on h d = walk (turned h.state d.change).0 d.cursor
    (step (turned h.state d.change).1 h.cursor ∷ h.past) []

-- steps taken, one after another
abbrev pub gone_along : History State Change → List (Step Change) → History State Change
gone_along h [] = h
gone_along h (d ∷ ds) = gone_along (gone_on h d) ds

-- with these steps ahead
abbrev pub ahead_of : History State Change → List (Step Change) → History State Change
ahead_of h future = walk h.state h.cursor h.past future
