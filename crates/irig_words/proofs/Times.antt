-- Times of a command line are numbers that digits spell.
use Rattle.std.proofs.Common.{◌≡◌, ◌<◌, ◌≤◌, ◌+◌, ◌-◌, ◌*◌, ◌==◌, [], ◌∷◌, ℕ, true, false, List, Some, None}
use Rattle.std.proofs.Common.{ap, arith, inl, inr, length, min, nat_le, not, refl}
use Rattle.std.proofs.Math.Bool.{and-false}
use Rattle.std.proofs.lemmas.Bool.{cases_Bool, le-leb, lt-leb}
use Rattle.std.specs.List.{list_all}
use Rattle.irig_vcd.specs.Digits.{is_digit, is_number, number_from}
use Rattle.irig_words.specs.Windows.{spelt, time_named}

capped_same : (n m : ℕ) (bs : List ℕ) → min n 18446744073709551616 ≡ min m 18446744073709551616
    → min (number_from n bs) 18446744073709551616 ≡ min (number_from m bs) 18446744073709551616
capped_same n m [] h = h
capped_same n m (b ∷ bs) h = capped_same (10 * n + (b - 48)) (10 * m + (b - 48)) bs (omega arith)

capped_more : (v b : ℕ) (bs : List ℕ) → min (number_from (min (10 * v + (b - 48)) 18446744073709551616) bs) 18446744073709551616
    ≡ min (number_from v (b ∷ bs)) 18446744073709551616
capped_more v b bs = capped_same (min (10 * v + (b - 48)) 18446744073709551616) (10 * v + (b - 48)) bs (omega arith)

-- one more digit
pub spelt_digit : (v b : ℕ) (bs : List ℕ) → is_digit b ≡ true → spelt (min (10 * v + (b - 48)) 18446744073709551616) bs ≡ spelt v (b ∷ bs)
spelt_digit v b bs h = rw (h, capped_more v b bs) refl

-- a number that is read is that of the digits, or the limit
pub spelt_is : (ds : List ℕ) (n : ℕ) → Some n ≡ spelt 0 ds → (list_all is_digit ds ≡ true) × (n ≡ min (number_from 0 ds) 18446744073709551616)
spelt_is ds n h = elim (cases_Bool (list_all is_digit ds)) [
  | inl all ↦ (let k : spelt 0 ds ≡ Some (min (number_from 0 ds) 18446744073709551616) = rw all refl in (all, cc))
  | inr some ↦ (let k : spelt 0 ds ≡ None = rw some refl in absurd (cc))
]

-- if a byte is no digit, no number is read
unspelt : (ds : List ℕ) → None ≡ spelt 0 ds → list_all is_digit ds ≡ false
unspelt ds h = elim (cases_Bool (list_all is_digit ds)) [
  | inl all ↦ (let k : spelt 0 ds ≡ Some (min (number_from 0 ds) 18446744073709551616) = rw all refl in absurd (cc))
  | inr some ↦ some
]

-- a number below the limit is a time
pub is_time : (ds : List ℕ) (n : ℕ) → (length ds == 0) ≡ false → Some n ≡ spelt 0 ds → n < 18446744073709551616 → Some n ≡ time_named ds
is_time ds n some h low =
    let s = spelt_is ds n h in
    let same : n ≡ number_from 0 ds = omega (arith, s.1, low) in
    let short : nat_le (number_from 0 ds) 18446744073709551615 ≡ true = le-leb (number_from 0 ds) 18446744073709551615 (omega (arith, same, low)) in
    rw (some, s.0, short) (ap Some same)

-- it is none, if the number is not below the limit
pub is_late : (ds : List ℕ) (n : ℕ) → Some n ≡ spelt 0 ds → 18446744073709551616 ≤ n → None ≡ time_named ds
is_late ds n h high =
    let s = spelt_is ds n h in
    let late : nat_le (number_from 0 ds) 18446744073709551615 ≡ false =
    lt-leb (number_from 0 ds) 18446744073709551615 (omega (arith, s.1, high)) in
    rw (late, and-false (is_number ds)) refl

-- or if a byte is no digit
pub is_no_number : (ds : List ℕ) → None ≡ spelt 0 ds → None ≡ time_named ds
is_no_number ds h = rw (unspelt ds h, and-false (not (length ds == 0))) refl

-- or if there is none
pub is_nothing : (ds : List ℕ) → (length ds == 0) ≡ true → None ≡ time_named ds
is_nothing ds none = rw none refl
