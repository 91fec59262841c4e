-- The exponent of a number in a column. This project's own.
use Rattle.std.specs.Prelude.{◌==◌, ℕ, ◌+◌, ◌||◌, Bool, true, false, List, [], ◌∷◌, Option, Some, None}
use Rattle.std.specs.Prelude.{if◌then◌else◌}
use Rattle.irig_stamps.specs.declared.cutting.Until.TheVariants.{NonBlank, NonDigit}
use Rattle.irig_stamps.specs.{Columns.before, Columns.onward, Points.digits_after, Points.rounded}

-- a value, if only white space is left
abbrev pub if_blank : List ℕ → ℕ → Option ℕ
if_blank text v = blank (onward NonBlank text) v where
  blank : List ℕ → ℕ → Option ℕ
  blank [] v = Some v
  blank (b ∷ bs) v = None

-- the same after the digits of an exponent, which moves the point to the right; or to the left
abbrev pub powered : Bool → Bool → ℕ → List ℕ → List ℕ → List ℕ → List ℕ → Option ℕ
powered up left n whole fraction [] rest = None
powered up false n whole fraction (d ∷ ds) rest =
    if_blank rest (rounded up (n + digits_after 0 (d ∷ ds)) 0 whole fraction)
powered up true n whole fraction (d ∷ ds) rest =
    if_blank rest (rounded up n (digits_after 0 (d ∷ ds)) whole fraction)

-- the same after the e of an exponent
abbrev pub after_e : Bool → ℕ → List ℕ → List ℕ → List ℕ → Option ℕ
after_e up n whole fraction [] = None
after_e up n whole fraction (b ∷ bs) =
    if b == 45 then powered up true n whole fraction (before NonDigit bs) (onward NonDigit bs)
    else (if b == 43
    then powered up false n whole fraction (before NonDigit bs) (onward NonDigit bs)
    else powered up false n whole fraction (before NonDigit (b ∷ bs)) (onward NonDigit (b ∷ bs)))

-- the number with these digits before its point and after it, and what is after them
abbrev pub with_exponent : Bool → ℕ → List ℕ → List ℕ → List ℕ → Option ℕ
with_exponent up n whole fraction [] = Some (rounded up n 0 whole fraction)
with_exponent up n whole fraction (b ∷ bs) =
    if (b == 101) || (b == 69) then after_e up n whole fraction bs
    else if_blank (b ∷ bs) (rounded up n 0 whole fraction)
