-- All numbers but the control functions have at most 17 bits.
use Rattle.std.proofs.Common.{ℕ, zero, suc, ◌<◌, ◌≤◌, Bool, true, false, List, [], ◌∷◌, get_or, arith}
use Rattle.irig_codes.specs.declared.note.Name.TheVariants.{Hundredths, Seconds, Year}
use Rattle.irig_codes.specs.OnesDigits.{digit_in, sbs_in, digits_in}
use Rattle.irig_codes.specs.declared.format.Kind.TheVariants.{A, B, E, G}
use Rattle.irig_codes.specs.{Format.FormatView, Format.has_year, Format.carries_sbs, Layout.runs, declared.format.Kind.Kind}

-- all but the control functions have at most 17 bits
abbrev Small : ℕ → List ℕ → Type 0
Small zero xs = Unit {0}
Small (suc n) [] = Unit {0}
Small (suc n) (x ∷ xs) = (x ≤ 131071) × Small n xs

small-get : (n : ℕ) (xs : List ℕ) → Small n xs → (d : ℕ) → d < n → get_or xs d 0 ≤ 131071
small-get zero xs h d b = absurd (omega arith)
small-get (suc n) [] h d b = omega arith
small-get (suc n) (x ∷ xs) h zero b = h.0
small-get (suc n) (x ∷ xs) h (suc d) b = small-get n xs h.1 d (omega arith)

small-hundredths-units : (k : Kind) (y : Bool) (n : ℕ) → digit_in n 1 (runs k y Hundredths) ≤ 131071
small-hundredths-units A y n = omega arith
small-hundredths-units B y n = omega arith
small-hundredths-units E y n = omega arith
small-hundredths-units G y n = omega arith

small-hundredths-tens : (k : Kind) (y : Bool) (n : ℕ) → digit_in n 10 (runs k y Hundredths) ≤ 131071
small-hundredths-tens A y n = omega arith
small-hundredths-tens B y n = omega arith
small-hundredths-tens E y n = omega arith
small-hundredths-tens G y n = omega arith

small-seconds-units : (k : Kind) (y : Bool) (n : ℕ) → digit_in n 1 (runs k y Seconds) ≤ 131071
small-seconds-units A y n = omega arith
small-seconds-units B y n = omega arith
small-seconds-units E y n = omega arith
small-seconds-units G y n = omega arith

small-seconds-tens : (k : Kind) (y : Bool) (n : ℕ) → digit_in n 10 (runs k y Seconds) ≤ 131071
small-seconds-tens A y n = omega arith
small-seconds-tens B y n = omega arith
small-seconds-tens E y n = omega arith
small-seconds-tens G y n = omega arith

small-year-units : (k : Kind) (y : Bool) (n : ℕ) → digit_in n 1 (runs k y Year) ≤ 131071
small-year-units k false n = omega arith
small-year-units A true n = omega arith
small-year-units B true n = omega arith
small-year-units E true n = omega arith
small-year-units G true n = omega arith

small-year-tens : (k : Kind) (y : Bool) (n : ℕ) → digit_in n 10 (runs k y Year) ≤ 131071
small-year-tens k false n = omega arith
small-year-tens A true n = omega arith
small-year-tens B true n = omega arith
small-year-tens E true n = omega arith
small-year-tens G true n = omega arith

small-sbs : (b : Bool) (n : ℕ) → sbs_in b n ≤ 131071
small-sbs true n = omega arith
small-sbs false n = omega arith

pub digits-small : (f : FormatView) (n d : ℕ) → d < 14 → get_or (digits_in f n) d 0 ≤ 131071
digits-small f n =
    let k = f.kind in
    let y = has_year f.expression in
    small-get 14 (digits_in f n) (
      small-hundredths-units k y n,
      (
        small-hundredths-tens k y n,
        (
          small-seconds-units k y n,
          (
            small-seconds-tens k y n,
            (
              omega arith,
              (
                omega arith,
                (
                  omega arith,
                  (
                    omega arith,
                    (
                      omega arith,
                      (
                        omega arith,
                        (
                          omega arith,
                          (small-year-units k y n, (small-year-tens k y n, (small-sbs (carries_sbs k f.expression) n, tt))),
                        ),
                      ),
                    ),
                  ),
                ),
              ),
            ),
          ),
        ),
      ),
    )
