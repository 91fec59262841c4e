-- Changes turned one after another, and moved from one list to another. This project's own.
use Rattle.std.specs.Prelude.{◌≡◌, ◌++◌, ℕ, List, length, map}
use Rattle.irig_journal.specs.Turns.{CountsAll, left_by, ways_back}

-- from one list, which lost its nearest changes, each was turned, and what it left was moved to the
-- other: its last is the nearest there. Both lists have the nearest first.
pub record Moved {S C D T : Type 0} (turned : S → D → S × D) (delta : C → D)
    (counted : S → D → T → T → Type 0) (count : ℕ) (s after : S) (old new : T)
    (from left to more : List C) : Type 0 where
  pub taken : List C
  pub backs : List C
  pub many : (length taken ≡ count) × (length backs ≡ count)
  pub parts : from ≡ taken ++ left
  pub longer : more ≡ backs ++ to
  pub turns : map delta backs ≡ ways_back turned s (map delta taken)
  pub state : after ≡ left_by turned s (map delta taken)
  pub counts : CountsAll counted turned s (map delta taken) old new
