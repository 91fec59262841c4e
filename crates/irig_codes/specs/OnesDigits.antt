-- The fifteen numbers that a frame carries, from its elements that are One as the bits of a
-- number: element k is bit k. This project's own.
use Rattle.std.specs.Prelude.{ℕ, ◌+◌, ◌*◌, ◌==◌, Bool, true, false, if◌then◌else◌, List, [], ◌∷◌}
use Rattle.irig_codes.specs.declared.note.Name.TheVariants.{Hundredths, Seconds, Minutes, Hours}
use Rattle.irig_codes.specs.declared.note.Name.TheVariants.{Days, Year}
use Rattle.irig_codes.specs.Format.{FormatView, has_control, has_year, carries_sbs}
use Rattle.irig_codes.specs.Layout.{runs, sbs_runs, control_starts}
use Rattle.irig_codes.specs.{declared.format.Kind.Kind, Runs.Run, Ones.bits_in}

-- the number in the run whose first weight is w; 0 without one
abbrev pub digit_in : ℕ → ℕ → List Run → ℕ
digit_in n w [] = 0
digit_in n w (r ∷ rs) =
    if r.weight == w then bits_in n r.first r.count else digit_in n w rs

-- the whole number in some runs
abbrev pub whole_in : ℕ → List Run → ℕ
whole_in n [] = 0
whole_in n (r ∷ rs) = r.weight * bits_in n r.first r.count + whole_in n rs

-- the straight binary seconds, if a format has them
abbrev pub sbs_in : Bool → ℕ → ℕ
sbs_in there n = if there then whole_in n sbs_runs else 0

-- the number of the control elements: nine bits from each of these places on
abbrev pub control_number : ℕ → List ℕ → ℕ
control_number n [] = 0
control_number n (e ∷ es) = bits_in n e 9 + 512 * control_number n es

-- the control functions, if a format has them
abbrev pub control_in : Kind → Bool → Bool → ℕ → ℕ
control_in k false y n = 0
control_in k true y n = control_number n (control_starts k y)

-- the fifteen numbers
abbrev pub digits_in : FormatView → ℕ → List ℕ
digits_in f n =
    let k = f.kind in
    let y = has_year f.expression in
    digit_in n 1 (runs k y Hundredths) ∷ digit_in n 10 (runs k y Hundredths)
    ∷ digit_in n 1 (runs k y Seconds) ∷ digit_in n 10 (runs k y Seconds)
    ∷ digit_in n 1 (runs k y Minutes) ∷ digit_in n 10 (runs k y Minutes)
    ∷ digit_in n 1 (runs k y Hours) ∷ digit_in n 10 (runs k y Hours)
    ∷ digit_in n 1 (runs k y Days) ∷ digit_in n 10 (runs k y Days)
    ∷ digit_in n 100 (runs k y Days)
    ∷ digit_in n 1 (runs k y Year) ∷ digit_in n 10 (runs k y Year)
    ∷ sbs_in (carries_sbs k f.expression) n
    ∷ control_in k (has_control f.expression) y n ∷ []
