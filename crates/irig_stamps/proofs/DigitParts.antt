-- Numbers that have the same digits.
use Rattle.std.proofs.Common.{◌≡◌, ℕ, ◌+◌, ◌*◌, ◌/◌, ◌%◌, ◌<◌, ◌^◌, ◌++◌, List, ◌∷◌, length, take, drop, get_or, sym, ap, ◌∙◌, arith, Some}
use Rattle.std.specs.Prelude.{decimal}
use Rattle.std.proofs.{Math.Nat.div-div-eq-div-mul, Math.Seq.drop-append_seam, Math.Seq.take-append_seam}
use Rattle.std.proofs.lemmas.{Fmt.decimal_injective, List.length-append}
use Rattle.irig_times.specs.declared.time.Time.{Time}
use Rattle.irig_stamps.specs.Texts.{clock_text, date_text, day_seconds, day_text, digit_at, fraction_text, seconds_text, year_text}

pub uncons : (x y : ℕ) (xs ys : List ℕ) → x ∷ xs ≡ y ∷ ys → (x ≡ y) × (xs ≡ ys)
uncons x y xs ys e = (ap (λ l. get_or l 0 0) e, ap (drop 1) e)

pub two-digits : (a b : ℕ) → a < 100 → b < 100 → digit_at 10 a ≡ digit_at 10 b → digit_at 1 a ≡ digit_at 1 b → a ≡ b
two-digits a b la lb tens ones = omega (arith, la, lb, tens, ones)

-- a digit more
same-digit : (u a b : ℕ) → digit_at u a ≡ digit_at u b → a / (u * 10) ≡ b / (u * 10) → a / u ≡ b / u
same-digit u a b digit above =
    apart (a / u) (b / u) digit (div-div-eq-div-mul a u 10 ∙ (above ∙ sym (div-div-eq-div-mul b u 10)))
  where
    apart : (m n : ℕ) → 48 + m % 10 ≡ 48 + n % 10 → m / 10 ≡ n / 10 → m ≡ n
    apart m n d h = omega (arith, d, h)

pub three-digits : (a b : ℕ) → a < 1000 → b < 1000 → digit_at 100 a ≡ digit_at 100 b → digit_at 10 a ≡ digit_at 10 b → digit_at 1 a ≡ digit_at 1 b → a ≡ b
three-digits a b la lb hundreds tens ones =
    let above : a / (100 * 10) ≡ b / (100 * 10) = omega (arith, la, lb) in
    let last = same-digit 1 a b ones (same-digit 10 a b tens (same-digit 100 a b hundreds above)) in
    omega (arith, last)

pub day-parts : (a b : ℕ) (xs ys : List ℕ) → a < 1000 → b < 1000 → day_text a ++ xs ≡ day_text b ++ ys → (a ≡ b) × (xs ≡ ys)
day-parts a b xs ys la lb e =
    let one = uncons _ _ _ _ e in
    let two = uncons _ _ _ _ one.1 in
    let three = uncons _ _ _ _ two.1 in
    (three-digits a b la lb one.0 two.0 three.0, three.1)

pub date-parts : (m n a b : ℕ) (xs ys : List ℕ) → m < 100 → n < 100 → a < 100 → b < 100 → date_text m a ++ xs ≡ date_text n b ++ ys
    → (m ≡ n) × (a ≡ b) × (xs ≡ ys)
date-parts m n a b xs ys lm ln la lb e =
    let one = uncons _ _ _ _ e in
    let two = uncons _ _ _ _ one.1 in
    let hyphen = uncons _ _ _ _ two.1 in
    let four = uncons _ _ _ _ hyphen.1 in
    let five = uncons _ _ _ _ four.1 in
    (two-digits m n lm ln one.0 two.0, two-digits a b la lb four.0 five.0, five.1)

pub year-parts : (a b : ℕ) (xs ys : List ℕ) → a < 10000 → b < 10000 → year_text (Some a) ++ xs ≡ year_text (Some b) ++ ys → (a ≡ b) × (xs ≡ ys)
year-parts a b xs ys la lb e =
    let one = uncons _ _ _ _ e in
    let two = uncons _ _ _ _ one.1 in
    let three = uncons _ _ _ _ two.1 in
    let four = uncons _ _ _ _ three.1 in
    let hyphen = uncons _ _ _ _ four.1 in
    let above : a / (1000 * 10) ≡ b / (1000 * 10) = omega (arith, la, lb) in
    let last = same-digit 1 a b four.0 (same-digit 10 a b three.0 (same-digit 100 a b two.0 (same-digit 1000 a b one.0 above))) in
    (omega (arith, last), hyphen.1)

-- the six digits of the microseconds of a second, below a unit of whole seconds
six-digits : (a b : ℕ) → a / 1000000 ≡ b / 1000000 → digit_at 100000 a ≡ digit_at 100000 b → digit_at 10000 a ≡ digit_at 10000 b
    → digit_at 1000 a ≡ digit_at 1000 b → digit_at 100 a ≡ digit_at 100 b → digit_at 10 a ≡ digit_at 10 b → digit_at 1 a ≡ digit_at 1 b → a ≡ b
six-digits a b above one two three four five six =
    let thousands = same-digit 1000 a b three (same-digit 10000 a b two (same-digit 100000 a b one above)) in
    let last = same-digit 1 a b six (same-digit 10 a b five (same-digit 100 a b four thousands)) in
    omega (arith, last)

pub clock-parts : (x y : Time) → x.hours < 100 → y.hours < 100 → x.minutes < 100 → y.minutes < 100 → x.micros < 100000000 → y.micros < 100000000
    → clock_text x ≡ clock_text y → (x.hours ≡ y.hours) × (x.minutes ≡ y.minutes) × (x.micros ≡ y.micros)
clock-parts x y hx hy mx my ux uy e =
    let t = uncons _ _ _ _ e in
    let h1 = uncons _ _ _ _ t.1 in
    let h2 = uncons _ _ _ _ h1.1 in
    let c1 = uncons _ _ _ _ h2.1 in
    let m1 = uncons _ _ _ _ c1.1 in
    let m2 = uncons _ _ _ _ m1.1 in
    let c2 = uncons _ _ _ _ m2.1 in
    let s1 = uncons _ _ _ _ c2.1 in
    let s2 = uncons _ _ _ _ s1.1 in
    let point = uncons _ _ _ _ s2.1 in
    let f1 = uncons _ _ _ _ point.1 in
    let f2 = uncons _ _ _ _ f1.1 in
    let f3 = uncons _ _ _ _ f2.1 in
    let f4 = uncons _ _ _ _ f3.1 in
    let f5 = uncons _ _ _ _ f4.1 in
    let f6 = uncons _ _ _ _ f5.1 in
    let above : x.micros / (10000000 * 10) ≡ y.micros / (10000000 * 10) = omega (arith, ux, uy) in
    let seconds = same-digit 1000000 x.micros y.micros s2.0 (same-digit 10000000 x.micros y.micros s1.0 above) in (
      two-digits x.hours y.hours hx hy h1.0 h2.0,
      two-digits x.minutes y.minutes mx my m1.0 m2.0,
      six-digits x.micros y.micros seconds f1.0 f2.0 f3.0 f4.0 f5.0 f6.0,
    )

-- a number in decimal, before the microseconds of a second
pub seconds-parts : (x y : Time) → day_seconds x < 2 ^ 64 → day_seconds y < 2 ^ 64 → seconds_text x ≡ seconds_text y
    → (day_seconds x ≡ day_seconds y) × (x.micros % 1000000 ≡ y.micros % 1000000)
seconds-parts x y sx sy e =
    let dx = decimal (day_seconds x) in
    let dy = decimal (day_seconds y) in
    let fx = fraction_text x.micros in
    let fy = fraction_text y.micros in
    let long : length dx + 7 ≡ length dy + 7 = sym (length-append dx fx) ∙ (ap length e ∙ length-append dy fy) in
    let same : length dx ≡ length dy = omega (arith, long) in
    let front : dx ≡ dy = sym (take-append_seam dx fx) ∙ ((λ i. take (same i) (e i)) ∙ take-append_seam dy fy) in
    let back : fx ≡ fy = sym (drop-append_seam dx fx) ∙ ((λ i. drop (same i) (e i)) ∙ drop-append_seam dy fy) in
    let point = uncons _ _ _ _ back in
    let f1 = uncons _ _ _ _ point.1 in
    let f2 = uncons _ _ _ _ f1.1 in
    let f3 = uncons _ _ _ _ f2.1 in
    let f4 = uncons _ _ _ _ f3.1 in
    let f5 = uncons _ _ _ _ f4.1 in
    let f6 = uncons _ _ _ _ f5.1 in (
      decimal_injective (day_seconds x) (day_seconds y) sx sy front,
      fraction (x.micros) (y.micros) f1.0 f2.0 f3.0 f4.0 f5.0 f6.0,
    )
  where
    fraction : (a b : ℕ) → digit_at 100000 a ≡ digit_at 100000 b → digit_at 10000 a ≡ digit_at 10000 b → digit_at 1000 a ≡ digit_at 1000 b
        → digit_at 100 a ≡ digit_at 100 b → digit_at 10 a ≡ digit_at 10 b → digit_at 1 a ≡ digit_at 1 b → a % 1000000 ≡ b % 1000000
    fraction a b one two three four five six =
        let ones : a % 10 ≡ b % 10 = omega (arith, six) in
        let tens : a % 100 ≡ b % 100 = omega (arith, five, ones) in
        let hundreds : a % 1000 ≡ b % 1000 = omega (arith, four, tens) in
        let fourth : a % 10000 ≡ b % 10000 = omega (arith, three, hundreds) in
        let fifth : a % 100000 ≡ b % 100000 = omega (arith, two, fourth) in
        omega (arith, one, fifth)
