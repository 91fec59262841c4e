-- The middle ones of distances, by which a recording has its clock. This project's own.
use Rattle.std.specs.Prelude.{ℕ, ◌≡◌, ◌+◌, ◌-◌, ◌*◌, ◌/◌, ◌<◌, List, drop, length, min, slice_index_or, take}
use Rattle.std.specs.List.Sorted.{IsNonDecreasing, IsPermutation}

-- the number in the middle of the sorted list; of an even number of them the later one of both
pub record IsMiddle (xs : List ℕ) (x : ℕ) : Type 0 where
  pub sorted : List ℕ
  pub same : IsPermutation xs sorted
  pub rising : IsNonDecreasing sorted
  pub middle : slice_index_or sorted (length xs / 2) 0 ≡ x

-- those around a place: as many before it as after it, or the first or last ones, or all
abbrev pub around : {X : Type 0} → ℕ → List X → ℕ → List X
around reach xs i = take (2 * reach + 1) (drop (min (i - reach) (length xs - (2 * reach + 1))) xs)

-- each is the middle one of those around its place
pub record AreMiddles (reach : ℕ) (xs ms : List ℕ) : Type 0 where
  pub all : length ms ≡ length xs
  pub each : (i : ℕ) → i < length xs → IsMiddle (around reach xs i) (slice_index_or ms i 0)
