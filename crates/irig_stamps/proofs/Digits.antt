-- Digits of a number that is no greater than a most.
use Rattle.std.proofs.Common.{◌≡◌, ℕ, ◌+◌, ◌-◌, ◌*◌, ◌++◌, List, [], ◌∷◌, min, refl, sym, ap, ◌∙◌, arith}
use Rattle.irig_stamps.specs.Points.{digits_after}

-- it is enough to know a number up to the most
pub kept-at-most : (m v : ℕ) (cs : List ℕ) → min (digits_after v cs) m ≡ min (digits_after (min v m) cs) m
kept-at-most m v [] = omega arith
kept-at-most m v (c ∷ cs) =
    let step : min (10 * v + (c - 48)) m ≡ min (10 * min v m + (c - 48)) m = omega arith in
    kept-at-most m (10 * v + (c - 48)) cs
    ∙ (ap (λ w. min (digits_after w cs) m) step ∙ sym (kept-at-most m (10 * min v m + (c - 48)) cs))

-- one more digit
pub next-at-most : (m v w c : ℕ) (cs : List ℕ) → w ≡ min (10 * v + (c - 48)) m → min (digits_after v (c ∷ cs)) m ≡ min (digits_after w cs) m
next-at-most m v w c cs is = kept-at-most m (10 * v + (c - 48)) cs ∙ ap (λ x. min (digits_after x cs) m) (sym is)

-- digits and then digits
pub digits_after-append : (v : ℕ) (xs ys : List ℕ) → digits_after v (xs ++ ys) ≡ digits_after (digits_after v xs) ys
digits_after-append v [] ys = refl
digits_after-append v (x ∷ xs) ys = digits_after-append (10 * v + (x - 48)) xs ys
