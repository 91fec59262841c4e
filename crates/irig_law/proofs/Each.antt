-- Lists that have a value for each number, made one after another.
use Rattle.std.proofs.Common.{◌≡◌, inl, inr, ◌<◌, ◌+◌, ◌++◌, ℕ, suc, zero, List, [], ◌∷◌, length, slice_get, Some, arith, refl, sym, ap, ◌∙◌, subst}
use Rattle.std.proofs.lemmas.Bool.{cases_lt}
use Rattle.std.proofs.lemmas.Option.{none-some, same_Some, slice_get_within}

pub at-front : (A : Type 0) (xs : List A) (x : A) (k : ℕ) → k < length xs → slice_get (xs ++ x ∷ []) k ≡ slice_get xs k
at-front A [] x k lt = absurd (omega (arith, lt))
at-front A (y ∷ xs) x zero lt = refl
at-front A (y ∷ xs) x (suc k) lt = at-front A xs x k (omega (arith, lt))

pub at-end : (A : Type 0) (xs : List A) (x : A) → slice_get (xs ++ x ∷ []) (length xs) ≡ Some x
at-end A [] x = refl
at-end A (y ∷ xs) x = at-end A xs x

longer : (A : Type 0) (xs : List A) (x : A) → length (xs ++ x ∷ []) ≡ length xs + 1
longer A [] x = refl
longer A (y ∷ xs) x = let more = longer A xs x in omega (arith, more)

pub one-longer : (A : Type 0) (xs ys : List A) (x : A) → ys ≡ xs ++ x ∷ [] → length ys ≡ length xs + 1
one-longer A xs ys x is = ap (λ (l : List A). length l) is ∙ longer A xs x

-- one more is in its place
pub each-more : (A : Type 0) (xs ys : List A) (x : A) (f : ℕ → A) (n : ℕ) → ys ≡ xs ++ x ∷ [] → length xs ≡ n
    → ((k : ℕ) → k < n → slice_get xs k ≡ Some (f k)) → x ≡ f n
    → (k : ℕ) → k < n + 1 → slice_get ys k ≡ Some (f k)
each-more A xs ys x f n is many before last k inside = elim (cases_lt k n) [
  | inl low ↦ ap (λ (l : List A). slice_get l k) is ∙ (at-front A xs x k (omega (arith, low, many)) ∙ before k low)
  | inr high ↦
      let same : k ≡ length xs = omega (arith, high, inside, many) in
      let here : k ≡ n = omega (arith, high, inside) in
      ap (λ (l : List A). slice_get l k) is ∙ (ap (λ i. slice_get (xs ++ x ∷ []) i) same
      ∙ (at-end A xs x ∙ ap Some (last ∙ ap f (sym here))))
]

-- what holds of each, holds of each with one more
pub all-more : (A : Type 0) (xs ys : List A) (x : A) (P : A → Type 0) → ys ≡ xs ++ x ∷ []
    → ((k : ℕ) (y : A) → slice_get xs k ≡ Some y → P y) → P x → (k : ℕ) (y : A) → slice_get ys k ≡ Some y → P y
all-more A xs ys x P is before last k y at = go xs before k (ap (λ (l : List A). slice_get l k) (sym is) ∙ at)
  where
    go : (l : List A) → ((k : ℕ) (y : A) → slice_get l k ≡ Some y → P y) → (k : ℕ) → slice_get (l ++ x ∷ []) k ≡ Some y → P y
    go [] b zero h = subst P (same_Some x y h) last
    go [] b (suc k) h = absurd (none-some y h)
    go (z ∷ l) b zero h = b 0 y h
    go (z ∷ l) b (suc k) h = go l (λ i w g. b (suc i) w g) k h

-- what holds of each at its place, holds of each with one more
pub at-more : (A : Type 0) (xs ys : List A) (x : A) (P : ℕ → A → Type 0) → ys ≡ xs ++ x ∷ []
    → ((k : ℕ) (y : A) → slice_get xs k ≡ Some y → P k y) → P (length xs) x → (k : ℕ) (y : A) → slice_get ys k ≡ Some y → P k y
at-more A xs ys x P is before last k y at =
    let there : slice_get (xs ++ x ∷ []) k ≡ Some y = ap (λ (l : List A). slice_get l k) (sym is) ∙ at in
    let inside = slice_get_within (xs ++ x ∷ []) k y there in
    let many = longer A xs x in
    elim (cases_lt k (length xs)) [
      | inl low ↦ before k y (sym (at-front A xs x k low) ∙ there)
      | inr high ↦
          let here : k ≡ length xs = omega (arith, high, inside, many) in
          let same : x ≡ y = same_Some x y (sym (at-end A xs x) ∙ (ap (λ i. slice_get (xs ++ x ∷ []) i) (sym here) ∙ there)) in
          subst (λ i. P i y) (sym here) (subst (λ z. P (length xs) z) same last)
    ]
