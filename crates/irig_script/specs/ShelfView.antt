-- What a shelf in memory is: its texts in order, how often it failed, how many writes were asked of
-- it, and the number of the one that it was set to fail, from 1. This project's own.
use Rattle.std.specs.Prelude.{◌+◌, ◌-◌, ◌^◌, ℕ, List, [], Option, Some, min}
use Rattle.irig_text.specs.Shelved.{Shelved, shelved}

-- a shelf in memory
pub record ShelfView : Type 0 where
  pub texts : List (List ℕ)
  pub failures : ℕ
  pub puts : ℕ
  pub fail : Option ℕ

-- the shelf with these
abbrev pub shelf_view : List (List ℕ) → ℕ → ℕ → Option ℕ → ShelfView
shelf_view texts failures puts fail =
    record { texts = texts; failures = failures; puts = puts; fail = fail }

-- what is known of it
abbrev pub known_of : ShelfView → Shelved
known_of s = shelved (Some s.texts) s.failures []

-- the number of the next write, up to 2^64 - 1
abbrev pub next_put : ShelfView → ℕ
next_put s = min (s.puts + 1) (2 ^ 64 - 1)
