-- How near the microseconds of a line are to the code that passed.
use Rattle.std.proofs.Common.{◌≡◌, inl, inr, ◌<◌, ◌≤◌, ◌+◌, ◌-◌, ◌*◌, ◌/◌, ℕ, arith, ap, ◌∙◌, subst}
use Rattle.std.specs.Prelude.{max, min}
use Rattle.std.proofs.Math.Nat.{lt-mul-div-succ, mul-div-le, mul-le-mul_left}
use Rattle.std.proofs.lemmas.Bool.{cases_lt}
use Rattle.irig_codes.specs.{Format.FormatView, Format.interval_of, declared.format.Kind.Kind}
use Rattle.irig_codes.specs.declared.format.Kind.TheVariants.{A, B, E, G}
use Rattle.irig_law.specs.{Holes.units_of, Holes.Hole, Holes.Rate, Holes.HolesAreBounded}
use Rattle.irig_timed.specs.{Bends.units_in, Gaps.most_off, Line.over_in, Truths.IsOver}

pub unscaled : (k a b : ℕ) → 0 < k → k * a ≤ k * b → a ≤ b
unscaled k a b some le = elim (cases_lt b a) [
  | inl less ↦
      let next : b + 1 ≤ a = omega (arith, less) in
      let more : k * (b + 1) ≤ k * a = mul-le-mul_left k next in absurd (omega (arith, more, le, some))
  | inr ge ↦ ge
]

-- `x` of `x + y` are over, and some units passed of u, at a rate from `least` to `most`. What the
-- line says is from `low` to `high`, and `more` is by how much the whole can differ from the rate.
module _ (least most x y u low high more : ℕ) (some : 0 < x + y) (under : low * (x + y) ≤ x * u) (above : x * u ≤ high * (x + y))
    (fast : most * (x + y) ≤ u + more) (slow : u ≤ least * (x + y) + more) where
  fast-first : most * x ≤ high + more
  fast-first = unscaled (x + y) (most * x) (high + more) some (omega (arith, mul-le-mul_left x fast, above))

  slow-last : u ≤ high + more + least * y
  slow-last = unscaled (x + y) u (high + more + least * y) some (omega (arith, mul-le-mul_left y slow, above))

  slow-first : low ≤ least * x + more
  slow-first = unscaled (x + y) low (least * x + more) some (omega (arith, mul-le-mul_left x slow, under))

  fast-last : low + most * y ≤ u + more
  fast-last = unscaled (x + y) (low + most * y) (u + more) some (omega (arith, mul-le-mul_left y fast, under))

  pub near : (passed : ℕ) → min (least * x) (u - most * y) ≤ passed → passed ≤ max (most * x) (u - least * y)
      → (low ≤ passed + more) × (passed ≤ high + more)
  near passed from to = (omega (arith, from, slow-first, fast-last), omega (arith, to, fast-first, slow-last))

-- an interval has whole microseconds, and a microsecond whole units
pub whole-units : (k : Kind) (n : ℕ) → n * 1000000000000 ≡ 1000000000000 / interval_of k * (n * interval_of k)
whole-units A n = omega arith
whole-units B n = omega arith
whole-units E n = omega arith
whole-units G n = omega arith

pub passes_nearly : HolesAreBounded → (f : FormatView) (r : Rate) (long n bound d x : ℕ) → 0 < d * long → x ≤ d * long → bound ≡ most_off r long (units_of n)
    → (passed : ℕ → ℕ) → Hole r (d * long) (d * units_of n) passed → IsOver f bound d (passed x) (over_in f n x (d * long))
passes_nearly bridges f r long n bound d x some le is passed hole =
    let all = d * long in
    let y = all - x in
    let sum : all ≡ x + y = omega (arith, le) in
    let micros = n * interval_of f.kind in
    let over = x * micros / all in
    let unit = 1000000000000 / interval_of f.kind in
    let units = units_of n in
    let u = d * units in
    let whole : units ≡ unit * micros = whole-units f.kind n in
    let all-units : x * u ≡ d * unit * (x * micros) = ap (λ z. x * (d * z)) whole ∙ omega arith in
    let begun : d * unit * (all * over) ≤ d * unit * (x * micros) = mul-le-mul_left (d * unit) (mul-div-le (x * micros) all) in
    let next : x * micros ≤ all * (over + 1) = lt-le (x * micros) (all * (over + 1)) (lt-mul-div-succ (x * micros) some) in
    let ended : d * unit * (x * micros) ≤ d * unit * (all * (over + 1)) = mul-le-mul_left (d * unit) next in
    let under : d * units_in f over * all ≤ x * u = omega (arith, all-units, begun) in
    let above : x * u ≤ d * units_in f (over + 1) * all = omega (arith, all-units, ended) in
    let fast-one : r.most * long ≤ units + bound = omega (arith, is) in
    let slow-one : units ≤ r.least * long + bound = omega (arith, is) in
    let fast : r.most * all ≤ u + d * bound = omega (arith, mul-le-mul_left d fast-one) in
    let slow : u ≤ r.least * all + d * bound = omega (arith, mul-le-mul_left d slow-one) in
    let bounded = bridges r all u passed hole x le in
    near r.least r.most x y u (d * units_in f over) (d * units_in f (over + 1)) (d * bound)
    (omega (arith, some, sum))
    (subst (λ z. d * units_in f over * z ≤ x * u) sum under)
    (subst (λ z. x * u ≤ d * units_in f (over + 1) * z) sum above)
    (subst (λ z. r.most * z ≤ u + d * bound) sum fast)
    (subst (λ z. u ≤ r.least * z + d * bound) sum slow)
    (passed x) bounded.earliest bounded.latest
  where
    lt-le : (a b : ℕ) → a < b → a ≤ b
    lt-le a b h = omega (arith, h)
