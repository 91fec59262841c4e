-- Places of a list that deny.
use Rattle.std.proofs.Common.{◌≡◌, inl, inr, ◌<◌, ◌≤◌, ◌+◌, ◌-◌, ℕ, suc, zero, Bool, true, List, [], ◌∷◌, length, arith}
use Rattle.std.proofs.lemmas.Bool.{cases_lt}
use Rattle.std.proofs.lemmas.Option.{none-some}
use Rattle.irig_law.specs.Law.{Denies, IsPossible, TwoAfter}

-- what denies is in the list
pub denies-inside : (list : List Bool) (k : ℕ) → Denies list k → k < length list
denies-inside [] k h = absurd (none-some true h)
denies-inside (x ∷ list) zero h = omega arith
denies-inside (x ∷ list) (suc k) h = let less = denies-inside list k h in omega (arith, less)

-- the second-last that denies, if `last` is one more than the last one, and `before` one more than the last one before that
pub two-after : (list : List Bool) (last before : ℕ) → ((k : ℕ) → last ≤ k → Denies list k → ⊥)
    → ((k : ℕ) → last ≡ k + 1 → Denies list k) → 0 < last → before ≤ last - 1
    → ((k : ℕ) → before ≤ k → k < last - 1 → Denies list k → ⊥) → ((k : ℕ) → before ≡ k + 1 → Denies list k)
    → (k : ℕ) → (k < before - 1 → TwoAfter list k) × (TwoAfter list k → k < before - 1)
two-after list last before none is some inside between second k = (to, from)
  where
    to : k < before - 1 → TwoAfter list k
    to less = record {
      one = before - 1;
      other = last - 1;
      later = less;
      order = omega (arith, less, inside);
      denies = second (before - 1) (omega (arith, less));
      denies_too = is (last - 1) (omega (arith, some));
    }

    from : TwoAfter list k → k < before - 1
    from t = elim (cases_lt t.one before) [
      | inl low ↦ let later = t.later in omega (arith, low, later)
      | inr high ↦ elim (cases_lt t.one (last - 1)) [
        | inl low ↦ absurd (between t.one high low t.denies)
        | inr far ↦ absurd (none t.other (let order = t.order in omega (arith, far, order, some)) t.denies_too)
      ]
    ]

-- an event is possible at the first that denies the first names, if none after it denies the second names
pub possible : (first second : List Bool) (denied last : ℕ) → ((k : ℕ) → 0 ≤ k → k < denied → Denies first k → ⊥)
    → ((k : ℕ) → last ≤ k → k < length second → Denies second k → ⊥) → last ≤ denied + 1 → IsPossible first second denied
possible first second denied last none none-later near = record {
  before = λ k less denies. none k (omega arith) less denies;
  after = λ k less denies. none-later k (omega (arith, less, near)) (denies-inside second k denies) denies;
}

-- else there is no place
pub not-possible : (first second : List Bool) (denied last place : ℕ) → length first ≡ length second
    → (denied < length first → Denies first denied) → last ≤ length second → ((k : ℕ) → last ≡ k + 1 → Denies second k)
    → denied + 1 < last → IsPossible first second place → ⊥
not-possible first second denied last place same is inside is-last far p = elim (cases_lt denied place) [
  | inl less ↦ p.before denied less (is (omega (arith, far, inside, same)))
  | inr more ↦ p.after (last - 1) (omega (arith, far, more)) (is-last (last - 1) (omega (arith, far)))
]
