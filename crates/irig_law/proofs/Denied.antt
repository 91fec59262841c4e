-- Lists of what denies.
use Rattle.std.proofs.Common.{◌≡◌, ◌+◌, ℕ, suc, zero, Bool, List, [], ◌∷◌, length, slice_get, Some, arith, refl, ap, ◌∙◌}
use Rattle.irig_law.specs.Stretches.{denials}

-- a list that has the test of each pulse from one on
pub denials-are : (test : ℕ → Bool) (from n : ℕ) (list : List Bool) → length list ≡ n
    → ((i : ℕ) (y : Bool) → slice_get list i ≡ Some y → y ≡ test (from + i)) → list ≡ denials test from n
denials-are test from zero [] many each = refl
denials-are test from zero (x ∷ list) many each = absurd (omega (arith, many))
denials-are test from (suc n) [] many each = absurd (omega (arith, many))
denials-are test from (suc n) (x ∷ list) many each =
    let first : from + 0 ≡ from = omega arith in
    let here : x ≡ test from = each 0 x refl ∙ ap test first in
    let later = λ (i : ℕ) (y : Bool) (at : slice_get list i ≡ Some y). (let next : from + suc i ≡ from + 1 + i = omega arith in
    each (suc i) y at ∙ ap test next) in
    ap (λ z. z ∷ list) here ∙ ap (λ l. test from ∷ l) (denials-are test (from + 1) n list (omega (arith, many)) later)

pub length-denials : (test : ℕ → Bool) (from n : ℕ) → length (denials test from n) ≡ n
length-denials test from zero = refl
length-denials test from (suc n) = let rest = length-denials test (from + 1) n in omega (arith, rest)
