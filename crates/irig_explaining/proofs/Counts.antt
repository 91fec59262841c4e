-- How far the elements between two rises reach, by the clock.
use Rattle.std.proofs.Common.{◌≡◌, ◌+◌, ◌*◌, ◌/◌, ◌<◌, ◌≤◌, ◌&&◌, ℕ, Bool, true, false, if◌then◌else◌, max, min, nat_lt, refl, inl, inr, arith}
use Rattle.std.specs.Int.{abs_diff}
use Rattle.std.proofs.Math.Nat.{div-lt_iff_lt-mul, div-mul-le_self, le-div_iff_mul-le, mul-div-le, mul-le-mul_left, mul-le-mul_right, mul-pos}
use Rattle.std.proofs.lemmas.Bool.{and_from, cases_lt, lt-ltb}
use Rattle.std.proofs.lemmas.Nat.{mul-le}
use Rattle.irig_explaining.specs.declared.prices.Prices.{Prices}
use Rattle.irig_explaining.specs.Distances.{far, gone, interval, is_off, late}

-- the elements that lie between, and five more
pub reach : (apart interval count : ℕ) → 0 < interval → count ≤ max 1 ((2 * apart + interval) / (2 * interval)) + 5
    → count * interval ≤ apart + 7 * interval
reach apart interval count some few =
    let n = (2 * apart + interval) / (2 * interval) in
    let low : 2 * interval * n ≤ 2 * apart + interval = mul-div-le (2 * apart + interval) (2 * interval) in
    let le : count ≤ n + 6 = omega (arith, few) in
    let high : count * interval ≤ (n + 6) * interval = mul-le-mul_right interval le in
    omega (arith, low, high)

-- any other number is off by half an interval
pub other_far : (apart interval n : ℕ) → 0 < interval → 0 < n → (n ≡ max 1 ((2 * apart + interval) / (2 * interval)) → ⊥)
    → interval ≤ 2 * abs_diff apart (n * interval)
other_far apart interval n some first other =
    let d = (2 * apart + interval) / (2 * interval) in
    let two : 0 < 2 * interval = omega arith in
    let low : d * (2 * interval) ≤ 2 * apart + interval = (le-div_iff_mul-le {k = 2 * interval} {x = d} {y = 2 * apart + interval} two).0 (omega arith) in
    let high : 2 * apart + interval < (d + 1) * (2 * interval) =
    (div-lt_iff_lt-mul {k = 2 * interval} {x = 2 * apart + interval} {y = d + 1} two).0 (omega arith) in
    elim (cases_lt d n) [
      | inl more ↦
          let le : (d + 1) * interval ≤ n * interval = mul-le-mul_right interval (omega arith) in
          omega (arith, high, le)
      | inr le ↦ elim (cases_lt n d) [
        | inl fewer ↦
            let less : (n + 1) * interval ≤ d * interval = mul-le-mul_right interval (omega arith) in
            omega (arith, low, less)
        | inr same ↦ absurd (other (omega arith))
      ]
    ]

div_more : (a b c d : ℕ) → 0 < d → d ≤ b → a ≤ c → a / b ≤ c / d
div_more a b c d some fewer more =
    let part : a / b * b ≤ a = div-mul-le_self a b in
    let less : a / b * d ≤ a / b * b = mul-le-mul_left (a / b) fewer in
    (le-div_iff_mul-le {k = d} {x = a / b} {y = c} some).1 (omega (arith, part, less, more))

-- a rise that is farther off costs no less, and with fewer elements no less
pub late_more : (p : Prices) (off more n count : ℕ) → off ≤ more → n ≤ count → late p off count ≤ late p more n
late_more p off more n count le few =
    let s = p.clock.now.spread in
    let some : 0 < s = p.clock.now.some_spread.0 in
    let square : 0 < s * s = mul-pos some some in
    let first : 32 * off * off ≤ 32 * more * more = mul-le (32 * off) off (32 * more) more (omega arith) le in
    let counts : min n 1048576 * min n 1048576 ≤ min count 1048576 * min count 1048576 =
    mul-le (min n 1048576) (min n 1048576) (min count 1048576) (min count 1048576) (omega arith) (omega arith) in
    div_more (32 * off * off / (s * s)) (4 + min count 1048576 * min count 1048576) (32 * more * more / (s * s)) (4 + min n 1048576 * min n 1048576)
    (omega arith) (omega (arith, counts)) (div_more (32 * off * off) (s * s) (32 * more * more) (s * s) square (omega arith) first)

either_way : (b x : Bool) → x ≡ true → (if b then true else x) ≡ true
either_way true x e = refl
either_way false x e = e

-- if half an interval is much more than usual, so is each other number of elements
pub is_alone : (p : Prices) (r q n : ℕ) → 0 < interval p r q → 0 < n → (n ≡ gone p r q → ⊥) → n ≤ gone p r q + 5
    → 72 < late p (interval p r q / 2) (gone p r q + 5) → is_off p (interval p r q) (far p r q n) n ≡ true
is_alone p r q n some first other few much =
    let i = interval p r q in let off = far p r q n in
    let half : i ≤ 2 * off = other_far _ i n some first other in
    let more : late p (i / 2) (gone p r q + 5) ≤ late p off n = late_more p (i / 2) off n (gone p r q + 5) (omega (arith, half)) few in
    either_way (nat_lt (4 * i) off) (nat_lt (9 * i) (20 * off) && nat_lt 72 (late p off n))
    (and_from (nat_lt (9 * i) (20 * off)) (nat_lt 72 (late p off n)) (lt-ltb (9 * i) (20 * off) (omega (arith, half, some)))
    (lt-ltb 72 (late p off n) (omega (arith, much, more))))
