-- How often a number is halved makes no difference once it is done.
use Rattle.std.proofs.Common.{◌≡◌, ◌+◌, ◌*◌, List, [], ◌∷◌, ◌/◌, ◌<◌, ◌≤◌, ℕ, zero, suc, refl, ap, sym, ◌∙◌, get_or, inl, inr, arith}
use Rattle.std.proofs.lemmas.Bool.{cases_lt, lt-ltb, le-ltb}
use Rattle.irig_explaining.specs.Missing.{halved}
use Rattle.irig_explaining.specs.declared.table.TheConstants.{LOGARITHMS}

-- a number that the table has
pub halved_low : (k n : ℕ) → n < 16 → n ≤ k → halved k n ≡ get_or LOGARITHMS n 0
halved_low zero zero lt le = refl
halved_low zero (suc n) lt le = absurd (omega arith)
halved_low (suc k) n lt le = rw (lt-ltb n 16 lt) refl

-- a larger one
pub halved_high : (k n : ℕ) → 16 ≤ n → halved (suc k) n ≡ 11 + halved k (n / 2)
halved_high k n le = rw (le-ltb n 16 le) refl

pub halved_same : (j k n : ℕ) → n ≤ j → n ≤ k → halved j n ≡ halved k n
halved_same zero k n le more = halved_low zero n (omega arith) le ∙ sym (halved_low k n (omega arith) more)
halved_same (suc j) zero n more le = halved_low (suc j) n (omega arith) more ∙ sym (halved_low zero n (omega arith) le)
halved_same (suc j) (suc k) n a b = elim (cases_lt n 16) [
  | inl lt ↦ halved_low (suc j) n lt a ∙ sym (halved_low (suc k) n lt b)
  | inr le ↦ halved_high j n le ∙ (ap (λ m. 11 + m) (halved_same j k (n / 2) (omega arith) (omega arith)) ∙ sym (halved_high k n le))
]

-- no logarithm that the table has is larger
AreSmall : List ℕ → Type 0
AreSmall [] = Unit {0}
AreSmall (x ∷ xs) = (x ≤ 43) × AreSmall xs

small_at : (xs : List ℕ) → AreSmall xs → (n : ℕ) → get_or xs n 0 ≤ 43
unfolding AreSmall
small_at [] h n = omega arith
small_at (x ∷ xs) h zero = h.0
small_at (x ∷ xs) h (suc n) = small_at xs h.1 n

table_small : (n : ℕ) → get_or LOGARITHMS n 0 ≤ 43
unfolding AreSmall
table_small n =
    small_at LOGARITHMS (
      omega arith,
      (
        omega arith,
        (
          omega arith,
          (
            omega arith,
            (
              omega arith,
              (
                omega arith,
                (
                  omega arith,
                  (
                    omega arith,
                    (omega arith, (omega arith, (omega arith, (omega arith, (omega arith, (omega arith, (omega arith, (omega arith, tt)))))))),
                  ),
                ),
              ),
            ),
          ),
        ),
      ),
    )
    n

-- sixteen, doubled some times
abbrev pub doubled : ℕ → ℕ
doubled zero = 16
doubled (suc j) = 2 * doubled j

-- a smaller number is not halved more often
pub halved_small : (j k n : ℕ) → n < doubled j → n ≤ k → halved k n ≤ 43 + 11 * j
halved_small zero k n lt le = let same = halved_low k n lt le in let small = table_small n in omega (arith, same, small)
halved_small (suc j) zero n lt le = let same = halved_low zero n (omega arith) le in let small = table_small n in omega (arith, same, small)
halved_small (suc j) (suc k) n lt le = elim (cases_lt n 16) [
  | inl less ↦ (let same = halved_low (suc k) n less le in let small = table_small n in omega (arith, same, small))
  | inr more ↦ (let same = halved_high k n more in let rest = halved_small j k (n / 2) (omega arith) (omega arith) in omega (arith, same, rest))
]
