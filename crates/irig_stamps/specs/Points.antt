-- The point of a decimal number, moved. This project's own.
use Rattle.std.specs.Prelude.{ℕ, zero, suc, ◌+◌, ◌-◌, ◌*◌, ◌++◌, ◌&&◌, Bool, true, false}
use Rattle.std.specs.Prelude.{List, [], ◌∷◌, length, drop, if◌then◌else◌}
use Rattle.irig_stamps.specs.declared.cutting.Until.TheVariants.{NonZero}
use Rattle.irig_stamps.specs.Columns.{onward}

-- the number that digits make, after a number v
abbrev pub digits_after : ℕ → List ℕ → ℕ
digits_after v [] = v
digits_after v (c ∷ cs) = digits_after (10 * v + (c - 48)) cs

-- the first n digits of some, with zeros after the last
abbrev pub padded : ℕ → List ℕ → List ℕ
padded zero fs = []
padded (suc n) [] = 48 ∷ padded n []
padded (suc n) (f ∷ fs) = f ∷ padded n fs

-- the digits before the point, if it is moved some places to the right and some to the left
abbrev pub kept : ℕ → ℕ → List ℕ → ℕ
kept right left whole = length whole + right - left

-- the number that they make
abbrev pub scaled : ℕ → ℕ → List ℕ → List ℕ → ℕ
scaled right left whole fraction =
    digits_after 0 (padded (kept right left whole) (whole ++ fraction))

-- whether some digit is not zero
abbrev pub has_weight : List ℕ → Bool
has_weight ds = some (onward NonZero ds) where
  some : List ℕ → Bool
  some [] = false
  some (d ∷ ds) = true

-- whether a digit after the point is not zero
abbrev pub has_more : ℕ → ℕ → List ℕ → List ℕ → Bool
has_more right left whole fraction = has_weight (drop (kept right left whole) (whole ++ fraction))

-- one more, or not
abbrev pub with_one : Bool → ℕ → ℕ
with_one more v = if more then v + 1 else v

-- the number with such a point, rounded down; or up
abbrev pub rounded : Bool → ℕ → ℕ → List ℕ → List ℕ → ℕ
rounded up right left whole fraction =
    with_one (up && has_more right left whole fraction) (scaled right left whole fraction)
