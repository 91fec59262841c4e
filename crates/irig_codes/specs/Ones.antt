-- The elements of a frame that are One as the bits of a number. This project's own.
use Rattle.std.specs.Prelude.{◌≡◌, ℕ, ◌+◌, ◌-◌, ◌*◌, ◌/◌, ◌%◌, ◌^◌, ◌<◌, if◌then◌else◌, List, []}
use Rattle.std.specs.Prelude.{◌∷◌, length, Option, Some, None}
use Rattle.std.specs.Int.{bit_at}
use Rattle.irig_codes.specs.{declared.width.Element.Element, Reading.counts}

-- the elements that are One: element k is bit k
abbrev pub ones_of : List Element → ℕ
ones_of [] = 0
ones_of (e ∷ es) = (if counts e then 1 else 0) + 2 * ones_of es

-- the same, as far too high as elements are missing from a frame
abbrev pub raised : List Element → ℕ
raised es = ones_of es * 2 ^ (100 - length es)

-- a number of bits from one place on
abbrev pub bits_in : ℕ → ℕ → ℕ → ℕ
bits_in n from count = n / 2 ^ from % 2 ^ count

-- the least bit of a number that a mask lacks
abbrev pub IsLowestOutside : ℕ → ℕ → Option ℕ → Type 0
IsLowestOutside n mask None = (i : ℕ) → i < 128 → bit_at n i ≡ 1 → bit_at mask i ≡ 1
IsLowestOutside n mask (Some t) = (t < 128) × (bit_at n t ≡ 1) × (bit_at mask t ≡ 0)
    × ((i : ℕ) → i < t → bit_at n i ≡ 1 → bit_at mask i ≡ 1)
