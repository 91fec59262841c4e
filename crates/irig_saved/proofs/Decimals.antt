-- Numbers are plain words, and words determine their numbers.
use Rattle.std.proofs.Common.{◌≡◌, ◌<◌, ◌+◌, ◌%◌, ◌^◌, ◌∷◌, [], ℕ, suc, ℤ, pos, negsuc, true, List, length, drop, decimal, nat_lt, refl, sym, ap, ◌∙◌, arith}
use Rattle.std.proofs.Common.{length-append, lit<}
use Rattle.std.specs.{List.list_all, Fmt.signed_decimal}
use Rattle.std.proofs.lemmas.Bool.{and_from, and_parts, lt-ltb, ltb-true}
use Rattle.std.proofs.lemmas.{Fmt.decimal_by_steps, Fmt.decimal_injective, List.Folds.list_all-append}
use Rattle.irig_saved.specs.Ranges.{IsDistance, IsNumber}
use Rattle.irig_saved.proofs.{Cuts.IsWord, PlainWords.IsPlain, PlainWords.lower, PlainWords.plain_is_word}

-- each byte is above the minus
abbrev IsHigh : List ℕ → Type 0
IsHigh w = (list_all (λ b. nat_lt 47 b) w ≡ true) × (0 < length w)

high_one : (n : ℕ) → list_all (λ b. nat_lt 47 b) ((48 + n) ∷ []) ≡ true
high_one n = and_from (nat_lt 47 (48 + n)) true (lt-ltb 47 (48 + n) (omega arith)) refl

pub digits_high : (n : ℕ) → n < 2 ^ 64 → IsHigh (decimal n)
digits_high n small = decimal_by_steps (λ _ ds. IsHigh ds) (λ m low. (high_one m, lit< tt))
    (λ m ds ten h. (
      list_all-append (λ b. nat_lt 47 b) ds ((48 + m % 10) ∷ []) ∙ and_from _ _ h.0 (high_one (m % 10)),
      omega (arith, h.1, length-append ds ((48 + m % 10) ∷ [])),
    )) n small

pub number_is_plain : (n : ℕ) → IsNumber n → IsPlain (decimal n)
number_is_plain n h = lower 47 36 (decimal n) (omega arith) (digits_high n h).0

pub number_is_word : (n : ℕ) → IsNumber n → IsWord (decimal n)
number_is_word n h = plain_is_word (decimal n) (number_is_plain n h)

wider : (n : ℕ) → n < 2 ^ 63 → suc n < 2 ^ 64
wider n h = omega (arith, h)

narrow : (n : ℕ) → n < 2 ^ 63 → n < 2 ^ 64
narrow n h = omega (arith, h)

pub distance_is_plain : (d : ℤ) → IsDistance d → IsPlain (signed_decimal d)
distance_is_plain (pos n) h = number_is_plain n (narrow n h)
distance_is_plain (negsuc n) h = number_is_plain (suc n) (wider n h)

pub distance_is_word : (d : ℤ) → IsDistance d → IsWord (signed_decimal d)
distance_is_word d h = plain_is_word (signed_decimal d) (distance_is_plain d h)

-- a number has no minus
no_minus : (n : ℕ) (w : List ℕ) → n < 2 ^ 64 → decimal n ≡ 45 ∷ w → ⊥
no_minus n w small e =
    let h = (digits_high n small).0 in
    let h' : list_all (λ b. nat_lt 47 b) (45 ∷ w) ≡ true = ap (list_all (λ b. nat_lt 47 b)) (sym e) ∙ h in
    let bad : 47 < 45 = ltb-true 47 45 (and_parts (nat_lt 47 45) (list_all (λ b. nat_lt 47 b) w) h').0 in
    omega (arith, bad)

pub same_number : (m n : ℕ) → IsNumber m → IsNumber n → decimal m ≡ decimal n → m ≡ n
same_number m n hm hn e = decimal_injective m n hm hn e

pub same_distance : (d e : ℤ) → IsDistance d → IsDistance e → signed_decimal d ≡ signed_decimal e → d ≡ e
same_distance (pos m) (pos n) hm hn e = ap pos (same_number m n (narrow m hm) (narrow n hn) e)
same_distance (pos m) (negsuc n) hm hn e = absurd (no_minus m (decimal (suc n)) (narrow m hm) e)
same_distance (negsuc m) (pos n) hm hn e = absurd (no_minus n (decimal (suc m)) (narrow n hn) (sym e))
same_distance (negsuc m) (negsuc n) hm hn e =
    let s : suc m ≡ suc n = same_number (suc m) (suc n) (wider m hm) (wider n hn) (ap (λ l. drop 1 l) e) in
    ap negsuc (omega (arith, s))

-- no number is the dash
pub no_dash : (n : ℕ) → IsNumber n → decimal n ≡ 45 ∷ [] → ⊥
no_dash n h e = no_minus n [] h e
