-- The decimal number in a column. This project's own.
use Rattle.std.specs.Prelude.{◌==◌, ℕ, ◌^◌, Bool, true, false, List, [], ◌∷◌, min}
use Rattle.std.specs.Prelude.{Option, Some, None, if◌then◌else◌}
use Rattle.irig_stamps.specs.declared.cutting.Until.TheVariants.{NonBlank, NonDigit}
use Rattle.irig_stamps.specs.{Columns.before, Columns.onward, declared.picos.Picos.Picos}
use Rattle.irig_stamps.specs.{Exponents.with_exponent, Points.digits_after, Points.rounded}

-- the number with these digits before its point, and what is after them
abbrev pub with_fraction : Bool → ℕ → List ℕ → List ℕ → Option ℕ
with_fraction up n whole [] = Some (rounded up n 0 whole [])
with_fraction up n whole (b ∷ bs) =
    if b == 46 then fraction (before NonDigit bs) (onward NonDigit bs)
    else with_exponent up n whole [] (b ∷ bs)
  where
    fraction : List ℕ → List ℕ → Option ℕ
    fraction [] rest = None
    fraction (f ∷ fs) rest = with_exponent up n whole (f ∷ fs) rest

-- the number without a sign
abbrev pub size_in : Bool → ℕ → List ℕ → Option ℕ
size_in up n text = size (before NonDigit text) (onward NonDigit text) where
  size : List ℕ → List ℕ → Option ℕ
  size [] rest = None
  size (d ∷ ds) rest = with_fraction up n (d ∷ ds) rest

-- so long before zero, or after it
abbrev pub with_sign : Bool → Option ℕ → Option Picos
with_sign negative None = None
with_sign negative (Some v) = Some (record { negative = negative; size = v })

-- that of the number
abbrev pub sized : Bool → ℕ → List ℕ → Option Picos
sized negative n text = with_sign negative (size_in negative n text)

-- the same with a sign, or without one
abbrev pub signed : ℕ → List ℕ → Option Picos
signed n [] = None
signed n (b ∷ bs) =
    if b == 45 then sized true n bs
    else (if b == 43 then sized false n bs else sized false n (b ∷ bs))

-- the number in a column, if it is one: maybe a sign, digits, maybe a point and digits, and maybe
-- an exponent, with white space round them; in units of which 10^n make one of the column, rounded
-- down
abbrev pub number_in : ℕ → List ℕ → Option Picos
number_in n text = signed n (onward NonBlank text)

-- up to a most
abbrev pub capped : Picos → Picos
capped p = record p { size = min p.size (2 ^ 120) }

-- the whole number that a text is, if it has only digits
abbrev pub whole_in : List ℕ → Option ℕ
whole_in text = whole (before NonDigit text) (onward NonDigit text) where
  whole : List ℕ → List ℕ → Option ℕ
  whole [] rest = None
  whole (d ∷ ds) [] = Some (digits_after 0 (d ∷ ds))
  whole (d ∷ ds) (b ∷ bs) = None
