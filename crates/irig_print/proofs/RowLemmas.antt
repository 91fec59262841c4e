-- Digits of printed numbers.
use Rattle.std.proofs.Common.{◌≡◌, ◌+◌, ◌-◌, ◌*◌, ◌/◌, ◌%◌, ◌^◌, ◌<◌, ◌≤◌, ◌==◌, [], ℕ, suc, zero, List, length, false, refl, ap, sym, subst, ◌∙◌, arith, drop}
use Rattle.std.proofs.Common.{slice_set}
use Rattle.std.proofs.lemmas.{Bool.Decides.nat_tests, Grind.drop-set_at}
use Rattle.std.proofs.{Math.ListN.drop_of_length-le, Math.Nat.pow-suc}
use Rattle.std.specs.Fmt.{digits, digits_onto, digit_glyph}

-- what is left to write before the digits that are at the end of the buffer
abbrev pub written : ℕ → ℕ → List ℕ → List ℕ
written at m buffer = digits_onto (at + 49) 16 false m (drop (at + 1) buffer)

pub written-start : (n : ℕ) (buffer : List ℕ) → length buffer ≡ 16 → digits 16 false n ≡ written 15 n buffer
unfolding digits
written-start n buffer h =
    let all : length buffer ≤ 16 = omega (arith, h) in
    let none : drop 16 buffer ≡ [] = drop_of_length-le buffer all in
    rw none refl

-- a digit goes before the others
pub written-more : (at m d : ℕ) (buffer : List ℕ) → 0 < at → at < length buffer → 16 ≤ m → d ≡ digit_glyph false (m % 16)
    → written at m buffer ≡ written (at - 1) (m / 16) (slice_set buffer at d)
written-more zero m d buffer some h large is = elim some [ ]
written-more (suc at) m d buffer some h large is =
    let more : (m / 16 == 0) ≡ false = grind (arith, nat_tests) in
    let fuel : suc at + 49 ≡ suc (at + 49) = omega arith in
    let less : suc at - 1 ≡ at = omega arith in
    let here : at + 1 ≡ suc at = omega arith in
    rw fuel (rw more (rw less (rw is (ap (λ acc. digits_onto (at + 49) 16 false (m / 16) acc)
    (sym (drop-set_at buffer (suc at) (at + 1) (digit_glyph false (m % 16)) here h))))))

-- the first digit
pub written-last : (at m d : ℕ) (buffer : List ℕ) → at < length buffer → m < 16 → d ≡ digit_glyph false m
    → written at m buffer ≡ drop at (slice_set buffer at d)
written-last at m d buffer h small is =
    let none : m / 16 ≡ 0 = grind arith in
    let same : m % 16 ≡ m = grind arith in
    let fuel : at + 49 ≡ suc (at + 48) = omega arith in
    rw fuel (rw none (rw same (rw is (sym (drop-set_at buffer at at (digit_glyph false m) refl h)))))

pub power-less : (at m : ℕ) → m < 16 ^ (at + 1) → 16 ≤ m → (0 < at) × (m / 16 < 16 ^ (at - 1 + 1))
power-less zero m h large = (omega arith, omega arith)
power-less (suc at) m h large =
    let up : suc at + 1 ≡ suc (at + 1) = omega arith in
    let less : suc at - 1 + 1 ≡ at + 1 = omega arith in
    let wide : m < 16 ^ (at + 1) * 16 = let P : ℕ → Type 0 = λ n. m < n in subst P (ap (λ n. 16 ^ n) up ∙ pow-suc 16 (at + 1)) h in
    (omega arith, rw less (grind arith))
