-- What is left of a list from one place on.
use Rattle.std.proofs.Common.{◌≡◌, ◌≤◌, ◌+◌, ℕ, suc, zero, List, [], ◌∷◌, length, drop, slice_get, Some, arith, refl, ap, ◌∙◌}
use Rattle.std.proofs.lemmas.Option.{none-some, same_Some}

pub drop-at : (A : Type 0) (xs : List A) (k : ℕ) (x : A) → slice_get xs k ≡ Some x → drop k xs ≡ x ∷ drop (k + 1) xs
drop-at A xs k x at = go xs k at ∙ (let e : suc k ≡ k + 1 = omega arith in ap (λ (n : ℕ). x ∷ drop n xs) e)
  where
    go : (ys : List A) (k : ℕ) → slice_get ys k ≡ Some x → drop k ys ≡ x ∷ drop (suc k) ys
    go [] k h = absurd (none-some x h)
    go (y ∷ ys) zero h = ap (λ (z : A). z ∷ ys) (same_Some y x h)
    go (y ∷ ys) (suc k) h = go ys k h

pub drop-end : (A : Type 0) (xs : List A) (k : ℕ) → length xs ≤ k → drop k xs ≡ []
drop-end A [] zero le = refl
drop-end A [] (suc k) le = refl
drop-end A (x ∷ xs) zero le = absurd (omega (arith, le))
drop-end A (x ∷ xs) (suc k) le = drop-end A xs k (omega (arith, le))
