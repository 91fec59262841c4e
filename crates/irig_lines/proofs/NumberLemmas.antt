-- How large a number of a script is, by its digits.
use Rattle.std.proofs.Common.{◌≡◌, ℕ, ◌<◌, ◌≤◌, ◌^◌, true, arith}
use Rattle.std.proofs.Math.Nat.{pow-le-pow_right}
use Rattle.std.proofs.lemmas.Bool.Decides.{nat_tests}
use Rattle.irig_lines.specs.Numbers.{is_digit}

-- a number of few digits is small
pub small_number : (i n : ℕ) → i ≤ 17 → n < 10 ^ i → n < 100000000000000000
small_number i n le lt = omega (arith, pow-le-pow_right {n = 10} (omega arith) {i = i} {j = 17} le)

pub within_limit : (i n : ℕ) → i ≤ 18 → n < 10 ^ i → n < 10 ^ 18
within_limit i n le lt = omega (arith, pow-le-pow_right {n = 10} (omega arith) {i = i} {j = 18} le)

pub digit_most : (b : ℕ) → is_digit b ≡ true → (48 ≤ b) × (b ≤ 57)
digit_most b h = (grind (arith, nat_tests), grind (arith, nat_tests))

-- the same in hexadecimal
pub small_control : (i n : ℕ) → i ≤ 11 → n < 16 ^ i → n < 17592186044416
small_control i n le lt = omega (arith, pow-le-pow_right {n = 16} (omega arith) {i = i} {j = 11} le)
