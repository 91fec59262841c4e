-- Neighbouring lanes, joined by one multiplication.
use Rattle.std.proofs.Common.{◌≡◌, ℕ, zero, suc, ◌+◌, ◌*◌, ◌/◌, ◌%◌, ◌^◌, ◌<◌, List, [], ◌∷◌, length, refl, ◌∙◌, ap, arith, get_or, pow-suc, div-add-mod'}
use Rattle.std.proofs.Common.{div-lt_iff_lt-mul}
use Rattle.std.specs.Int.Digits.{AllBelowBase, number_from_digits}
use lib.Lanes.{number_l, digits_l}
use Rattle.irig_vcd.specs.Code.Lanes.{pairs_joined}

-- the lanes of a number, each two of them joined
abbrev pairs_of : (ℕ → ℕ) → ℕ → ℕ → ℕ → List ℕ
pairs_of join wide zero x = []
pairs_of join wide (suc n) x = join (x % wide) ∷ pairs_of join wide n (x / wide)

-- two lanes are the low part of a number, and joined they are one digit of the wider base
abbrev JoinsTwo : (ℕ → ℕ) → ℕ → ℕ → ℕ → Type 0
JoinsTwo join wide lane base = (a b rest : ℕ) → a < base → b < base → ((a + lane * (b + lane * rest)) % wide ≡ a + lane * b)
    × ((a + lane * (b + lane * rest)) / wide ≡ rest) × (join (a + lane * b) ≡ base * a + b)

-- the pairs of a number's lanes are those of its digits
pairs_are : (join : ℕ → ℕ) (wide lane base : ℕ) → JoinsTwo join wide lane base → (n : ℕ) (xs : List ℕ) → length xs ≡ n + n → AllBelowBase base xs
    → pairs_of join wide n (number_l lane xs) ≡ pairs_joined base xs
pairs_are join wide lane base two zero [] long h = refl
pairs_are join wide lane base two zero (x ∷ xs) long h = absurd (omega arith)
pairs_are join wide lane base two (suc n) [] long h = absurd (omega arith)
pairs_are join wide lane base two (suc n) (x ∷ []) long h = absurd (omega arith)
pairs_are join wide lane base two (suc n) (a ∷ b ∷ xs) long h =
    let t = two a b (number_l lane xs) h.0 h.1.0 in
    (λ i. (ap join t.0 ∙ t.2) i ∷ pairs_of join wide n (t.1 i))
    ∙ ap (λ l. (base * a + b) ∷ l) (pairs_are join wide lane base two n xs (omega arith) h.1.1)

abbrev twos_of : ℕ → ℕ → List ℕ
twos_of = pairs_of (λ y. y * 2561 % 65536 / 256) 65536

pub twos_are : (n : ℕ) (xs : List ℕ) → length xs ≡ n + n → AllBelowBase 10 xs → twos_of n (number_l 256 xs) ≡ pairs_joined 10 xs
twos_are = pairs_are (λ y. y * 2561 % 65536 / 256) 65536 256 10 (λ a b rest x y. (omega (arith, x, y), omega (arith, x, y), omega (arith, x, y)))

-- ---- lanes that are read again as wider ones

number_of_digits : (p n x : ℕ) → 0 < p → x < p ^ n → number_l p (digits_l p n x) ≡ x
number_of_digits p zero x P h = omega (arith, native.Mathlib.Nat.pow-zero p)
number_of_digits p (suc n) x P h =
    let less : x / p < p ^ n = (div-lt_iff_lt-mul P).1 (rw (← pow-suc p n) h) in
    rw (number_of_digits p n (x / p) P less) (omega (arith, div-add-mod' x p))

abbrev fours_of : ℕ → ℕ → List ℕ
fours_of = pairs_of (λ y. y * 6553601 % 4294967296 / 65536) 4294967296

fours_are : (n : ℕ) (xs : List ℕ) → length xs ≡ n + n → AllBelowBase 100 xs → fours_of n (number_l 65536 xs) ≡ pairs_joined 100 xs
fours_are = pairs_are (λ y. y * 6553601 % 4294967296 / 65536) 4294967296 65536 100
    (λ a b rest x y. (omega (arith, x, y), omega (arith, x, y), omega (arith, x, y)))

short_of : (xs : List ℕ) → length xs ≡ 8 → AllBelowBase 100 xs → number_l 65536 xs < 256 ^ 16
short_of (a ∷ b ∷ c ∷ d ∷ e ∷ f ∷ g ∷ k ∷ []) long h = omega (
  arith,
  h.0,
  h.1.0,
  h.1.1.0,
  h.1.1.1.0,
  h.1.1.1.1.0,
  h.1.1.1.1.1.0,
  h.1.1.1.1.1.1.0,
  h.1.1.1.1.1.1.1.0,
)
short_of [] long h = absurd (omega arith)
short_of (a ∷ []) long h = absurd (omega arith)
short_of (a ∷ b ∷ []) long h = absurd (omega arith)
short_of (a ∷ b ∷ c ∷ []) long h = absurd (omega arith)
short_of (a ∷ b ∷ c ∷ d ∷ []) long h = absurd (omega arith)
short_of (a ∷ b ∷ c ∷ d ∷ e ∷ []) long h = absurd (omega arith)
short_of (a ∷ b ∷ c ∷ d ∷ e ∷ f ∷ []) long h = absurd (omega arith)
short_of (a ∷ b ∷ c ∷ d ∷ e ∷ f ∷ g ∷ []) long h = absurd (omega arith)
short_of (a ∷ b ∷ c ∷ d ∷ e ∷ f ∷ g ∷ k ∷ m ∷ xs) long h = absurd (omega arith)

pub fours_again : (xs : List ℕ) → length xs ≡ 8 → AllBelowBase 100 xs → fours_of 4 (number_l 256 (digits_l 256 16 (number_l 65536 xs))) ≡ pairs_joined 100 xs
fours_again xs long h = ap (fours_of 4) (number_of_digits 256 16 (number_l 65536 xs) (omega arith) (short_of xs long h)) ∙ fours_are 4 xs long h

-- ---- what joined digits spell

joined_below : (base wide : ℕ) → ((a b : ℕ) → a < base → b < base → base * a + b < wide) → (xs : List ℕ) → AllBelowBase base xs
    → AllBelowBase wide (pairs_joined base xs)
joined_below base wide fits [] h = tt
joined_below base wide fits (a ∷ []) h = tt
joined_below base wide fits (a ∷ b ∷ xs) h = (fits a b h.0 h.1.0, joined_below base wide fits xs h.1.1)

pub below_100 : (xs : List ℕ) → AllBelowBase 10 xs → AllBelowBase 100 (pairs_joined 10 xs)
below_100 = joined_below 10 100 (λ a b x y. omega (arith, x, y))

pub below_10000 : (xs : List ℕ) → AllBelowBase 100 xs → AllBelowBase 10000 (pairs_joined 100 xs)
below_10000 = joined_below 100 10000 (λ a b x y. omega (arith, x, y))

abbrev word_of : List ℕ → ℕ
word_of xs = number_l 256 (digits_l 256 16 (number_l 4294967296 xs))

pub eights_are : (xs : List ℕ) (r s : ℕ) → length xs ≡ 4 → AllBelowBase 10000 xs
    → ((a b : ℕ) → word_of xs % 18446744073709551616 ≡ a + 2 ^ 32 * b → a < 10000 → b < 10000 → r ≡ 10000 * a + b)
    → ((a b : ℕ) → word_of xs / 18446744073709551616 % 18446744073709551616 ≡ a + 2 ^ 32 * b → a < 10000 → b < 10000 → s ≡ 10000 * a + b)
    → r ∷ s ∷ [] ≡ pairs_joined 10000 xs
eights_are ([]) r s long h first second = absurd (omega arith)
eights_are (d0 ∷ []) r s long h first second = absurd (omega arith)
eights_are (d0 ∷ d1 ∷ []) r s long h first second = absurd (omega arith)
eights_are (d0 ∷ d1 ∷ d2 ∷ []) r s long h first second = absurd (omega arith)
eights_are (d0 ∷ d1 ∷ d2 ∷ d3 ∷ []) r s long h first second =
    let x = number_l 4294967296 (d0 ∷ d1 ∷ d2 ∷ d3 ∷ []) in
    let is : word_of (d0 ∷ d1 ∷ d2 ∷ d3 ∷ []) ≡ x = number_of_digits 256 16 x (omega arith) (omega (arith, h.0, h.1.0, h.1.1.0, h.1.1.1.0)) in
    let low : x % 18446744073709551616 ≡ d0 + 2 ^ 32 * d1 = omega (arith, h.0, h.1.0, h.1.1.0, h.1.1.1.0) in
    let high : x / 18446744073709551616 % 18446744073709551616 ≡ d2 + 2 ^ 32 * d3 = omega (arith, h.0, h.1.0, h.1.1.0, h.1.1.1.0) in
    let p = first d0 d1 (ap (λ y. y % 18446744073709551616) is ∙ low) h.0 h.1.0 in
    let q = second d2 d3 (ap (λ y. y / 18446744073709551616 % 18446744073709551616) is ∙ high) h.1.1.0 h.1.1.1.0 in
    λ i. p i ∷ q i ∷ []
eights_are (d0 ∷ d1 ∷ d2 ∷ d3 ∷ more ∷ rest) r s long h first second = absurd (omega arith)

pub value_of : (xs : List ℕ) → length xs ≡ 16 → AllBelowBase 10 xs → let p = pairs_joined 10000 (pairs_joined 100 (pairs_joined 10 xs)) in
    (get_or p 0 0 * 100000000 + get_or p 1 0 ≡ number_from_digits 10 xs) × (get_or p 0 0 * 100000000 + get_or p 1 0 < 2 ^ 64)
value_of ([]) long h = absurd (omega arith)
value_of (d0 ∷ []) long h = absurd (omega arith)
value_of (d0 ∷ d1 ∷ []) long h = absurd (omega arith)
value_of (d0 ∷ d1 ∷ d2 ∷ []) long h = absurd (omega arith)
value_of (d0 ∷ d1 ∷ d2 ∷ d3 ∷ []) long h = absurd (omega arith)
value_of (d0 ∷ d1 ∷ d2 ∷ d3 ∷ d4 ∷ []) long h = absurd (omega arith)
value_of (d0 ∷ d1 ∷ d2 ∷ d3 ∷ d4 ∷ d5 ∷ []) long h = absurd (omega arith)
value_of (d0 ∷ d1 ∷ d2 ∷ d3 ∷ d4 ∷ d5 ∷ d6 ∷ []) long h = absurd (omega arith)
value_of (d0 ∷ d1 ∷ d2 ∷ d3 ∷ d4 ∷ d5 ∷ d6 ∷ d7 ∷ []) long h = absurd (omega arith)
value_of (d0 ∷ d1 ∷ d2 ∷ d3 ∷ d4 ∷ d5 ∷ d6 ∷ d7 ∷ d8 ∷ []) long h = absurd (omega arith)
value_of (d0 ∷ d1 ∷ d2 ∷ d3 ∷ d4 ∷ d5 ∷ d6 ∷ d7 ∷ d8 ∷ d9 ∷ []) long h = absurd (omega arith)
value_of (d0 ∷ d1 ∷ d2 ∷ d3 ∷ d4 ∷ d5 ∷ d6 ∷ d7 ∷ d8 ∷ d9 ∷ d10 ∷ []) long h = absurd (omega arith)
value_of (d0 ∷ d1 ∷ d2 ∷ d3 ∷ d4 ∷ d5 ∷ d6 ∷ d7 ∷ d8 ∷ d9 ∷ d10 ∷ d11 ∷ []) long h = absurd (omega arith)
value_of (d0 ∷ d1 ∷ d2 ∷ d3 ∷ d4 ∷ d5 ∷ d6 ∷ d7 ∷ d8 ∷ d9 ∷ d10 ∷ d11 ∷ d12 ∷ []) long h = absurd (omega arith)
value_of (d0 ∷ d1 ∷ d2 ∷ d3 ∷ d4 ∷ d5 ∷ d6 ∷ d7 ∷ d8 ∷ d9 ∷ d10 ∷ d11 ∷ d12 ∷ d13 ∷ []) long h = absurd (omega arith)
value_of (d0 ∷ d1 ∷ d2 ∷ d3 ∷ d4 ∷ d5 ∷ d6 ∷ d7 ∷ d8 ∷ d9 ∷ d10 ∷ d11 ∷ d12 ∷ d13 ∷ d14 ∷ []) long h = absurd (omega arith)
value_of (d0 ∷ d1 ∷ d2 ∷ d3 ∷ d4 ∷ d5 ∷ d6 ∷ d7 ∷ d8 ∷ d9 ∷ d10 ∷ d11 ∷ d12 ∷ d13 ∷ d14 ∷ d15 ∷ []) long h = (
  omega arith,
  omega (
    arith,
    h.0,
    h.1.0,
    h.1.1.0,
    h.1.1.1.0,
    h.1.1.1.1.0,
    h.1.1.1.1.1.0,
    h.1.1.1.1.1.1.0,
    h.1.1.1.1.1.1.1.0,
    h.1.1.1.1.1.1.1.1.0,
    h.1.1.1.1.1.1.1.1.1.0,
    h.1.1.1.1.1.1.1.1.1.1.0,
    h.1.1.1.1.1.1.1.1.1.1.1.0,
    h.1.1.1.1.1.1.1.1.1.1.1.1.0,
    h.1.1.1.1.1.1.1.1.1.1.1.1.1.0,
    h.1.1.1.1.1.1.1.1.1.1.1.1.1.1.0,
    h.1.1.1.1.1.1.1.1.1.1.1.1.1.1.1.0,
  ),
)
value_of (d0 ∷ d1 ∷ d2 ∷ d3 ∷ d4 ∷ d5 ∷ d6 ∷ d7 ∷ d8 ∷ d9 ∷ d10 ∷ d11 ∷ d12 ∷ d13 ∷ d14 ∷ d15 ∷ more ∷ rest) long h = absurd (omega arith)
