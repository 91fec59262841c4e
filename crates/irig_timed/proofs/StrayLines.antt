-- How far the code that passed in a hole is from its line, if the clock ran as in the frames around it.
use Rattle.std.proofs.Common.{◌≡◌, ◌⊎◌, inl, inr, ◌<◌, ◌≤◌, ◌+◌, ◌-◌, ◌*◌, ◌/◌, ℕ, zero, suc, List, slice_get, Option, Some, None, arith, refl, ap, ◌∙◌}
use Rattle.std.specs.Prelude.{max, min}
use Rattle.std.proofs.Math.Nat.{lt-mul-div-succ, mul-div-le, mul-le-mul_left}
use Rattle.std.proofs.lemmas.Bool.{cases_lt}
use Rattle.irig_codes.specs.{Format.FormatView, Format.interval_of}
use Rattle.irig_recording.specs.declared.pulse.Pulse.{Pulse}
use Rattle.irig_times.specs.Steps.{apart, micros_between}
use Rattle.irig_law.specs.{Holes.units_of, declared.frame.Frame.Frame}
use Rattle.irig_timed.specs.Strays.{line_off, most_after, strays_in, strays_most}
use Rattle.irig_timed.specs.Alike.{HasTaken, HoleAs, RunsAs}
use Rattle.irig_timed.specs.{Bends.greatest, Bends.units_in, Line.over_in, Truths.IsOver, Strays.strays_over}
use Rattle.irig_timed.proofs.NearLines.{unscaled, whole-units}

-- the greatest number is at least each
pub greatest-at : (value : ℕ → ℕ) (k n j : ℕ) → k ≤ j → j < k + n → value j ≤ greatest value k n
greatest-at value k zero j low high = absurd (omega (arith, low, high))
greatest-at value k (suc n) j low high = elim (cases_lt k j) [
  | inl later ↦
      let rest = greatest-at value (k + 1) n j (omega (arith, later)) (omega (arith, high)) in
      let is : greatest value k (suc n) ≡ max (value k) (greatest value (k + 1) n) = refl in omega (arith, rest, is)
  | inr here ↦
      let same : value j ≡ value k = ap value (let e : j ≡ k = omega (arith, low, here) in e) in
      let is : greatest value k (suc n) ≡ max (value k) (greatest value (k + 1) n) = refl in omega (arith, same, is)
]

-- a loop over some numbers: with one of them, and when none is left
pub greatest-more : (value : ℕ → ℕ) (most here k end whole : ℕ) → k < end → here ≡ value k → max most (greatest value k (end - k)) ≡ whole
    → max (max most here) (greatest value (k + 1) (end - (k + 1))) ≡ whole
greatest-more value most here k end whole less is sum =
    let n : end - k ≡ suc (end - (k + 1)) = omega (arith, less) in
    let more : greatest value k (end - k) ≡ max (value k) (greatest value (k + 1) (end - (k + 1))) = ap (greatest value k) n in
    omega (arith, is, sum, more)

pub greatest-none : (value : ℕ → ℕ) (most k end whole : ℕ) → end ≤ k → max most (greatest value k (end - k)) ≡ whole → most ≡ whole
greatest-none value most k end whole le sum =
    let n : end - k ≡ zero = omega (arith, le) in
    let none : greatest value k (end - k) ≡ 0 = ap (greatest value k) n in
    omega (arith, sum, none)

no-time : (p : Option Pulse) → apart p p ≡ 0
no-time None = refl
no-time (Some p) = omega arith

module _ (ps : List Pulse) (a b : Frame) (long n : ℕ) where
  -- how far a line through a rise is from a later one of its frame
  in-frame : (marker p k : ℕ) → marker ≤ p → p + k < marker + 100 → k ≤ n → line_off ps long n p (p + k) ≤ strays_in ps long n marker
  in-frame marker p zero from to few =
      let here : micros_between ps p (p + 0) ≡ 0 = ap (micros_between ps p) (let e : p + 0 ≡ p = omega arith in e) ∙ no-time (slice_get ps p) in
      let none : n * micros_between ps p (p + 0) ≡ n * 0 = ap (λ t. n * t) here in
      let less : (p + 0 - p) * long ≡ 0 * long = ap (λ k. k * long) (let e : p + 0 - p ≡ 0 = omega arith in e) in
      omega (arith, none, less)
  in-frame marker p (suc c) from to few =
      let end = marker + 100 in
      let first = greatest-at (line_off ps long n p) (p + 1) (min end (p + n + 1) - (p + 1)) (p + suc c) (omega arith) (omega (arith, to, few)) in
      let second = greatest-at (most_after ps long n end) marker (end - marker) p from (omega (arith, to)) in
      omega (arith, first, second)

  -- so of each number of elements that the frames show
  pub strays-low : (k micros : ℕ) → k ≤ n → HasTaken ps a b k micros
      → (k * long ≤ n * micros + strays_most ps long n a b) × (n * micros ≤ k * long + strays_most ps long n a b)
  strays-low k micros few h =
      let p = h.first in
      let off = in-frame h.frame.marker p k h.from h.to few in
      let all = by-frame h.one in
      let long_is : (p + k - p) * long ≡ k * long = ap (λ j. j * long) (let e : p + k - p ≡ k = omega arith in e) in
      let is : n * micros ≡ n * micros_between ps p (p + k) = ap (λ t. n * t) h.is in
      (omega (arith, off, all, long_is, is), omega (arith, off, all, long_is, is))
    where
      by-frame : (h.frame ≡ a) ⊎ (h.frame ≡ b) → strays_in ps long n h.frame.marker ≤ strays_most ps long n a b
      by-frame (inl is) = (let e = ap (λ (c : Frame). strays_in ps long n c.marker) is in omega (arith, e))
      by-frame (inr is) = (let e = ap (λ (c : Frame). strays_in ps long n c.marker) is in omega (arith, e))

-- Some elements and a part of the next one pass, y of the y + z of it: `t` and `t + w` are how long the elements take, with and without that
-- one, to what they stray by. `share` is the part, in units.
module _ (unit long n s d k t w y z share : ℕ) (some : 0 < w) (sum : y + z ≡ d * w) where
  part-high : k * long ≤ n * t + s → (k + 1) * long ≤ n * (t + w) + s → w * share ≤ y * unit
      → (d * (k * unit) + share) * long ≤ unit * (n * (d * t + y)) + unit * (s * d)
  part-high least more under = unscaled w ((d * (k * unit) + share) * long) (unit * (n * (d * t + y)) + unit * (s * d)) some
      (omega (
        arith,
        mul-le-mul_left (unit * y) more,
        mul-le-mul_left (unit * z) least,
        mul-le-mul_left long under,
        ap (λ v. k * unit * long * v) sum,
        ap (λ v. unit * n * t * v) sum,
        ap (λ v. unit * s * v) sum,
      ))

  part-low : n * t ≤ k * long + s → n * (t + w) ≤ (k + 1) * long + s → y * unit ≤ w * (share + 1)
      → unit * (n * (d * t + y)) ≤ (d * (k * unit) + share) * long + long + unit * (s * d)
  part-low most more over = unscaled w (unit * (n * (d * t + y))) ((d * (k * unit) + share) * long + long + unit * (s * d)) some
      (omega (
        arith,
        mul-le-mul_left (unit * y) more,
        mul-le-mul_left (unit * z) most,
        mul-le-mul_left long over,
        ap (λ v. k * unit * long * v) sum,
        ap (λ v. unit * n * t * v) sum,
        ap (λ v. unit * s * v) sum,
      ))

-- some code is on the line, to what the frames stray by, and a unit of each interval
abbrev pub IsBy : ℕ → ℕ → ℕ → ℕ → ℕ → ℕ → Type 0
IsBy long n s d x passed =
    (passed * long ≤ 1000000000000 * (n * x) + long + 1000000000000 * (s * d))
    × (1000000000000 * (n * x) ≤ passed * long + long + 1000000000000 * (s * d))

module _ (ps : List Pulse) (a b : Frame) (long n d : ℕ) where
  abbrev off : ℕ
  off = strays_most ps long n a b

  runs-by : (x passed : ℕ) → RunsAs ps a b n d x passed → IsBy long n off d x passed
  runs-by x passed h =
      let unit : ℕ = 1000000000000 in
      let k = h.whole in
      let t = h.least in
      let w = h.most - h.least in
      let y = x - d * t in
      let z = d * h.most - x in
      let share = y * unit / w in
      let some : 0 < w = (let e = h.longer in omega (arith, e)) in
      let after : h.most ≡ t + w = (let e = h.longer in omega (arith, e)) in
      let all : d * h.most ≡ d * t + d * w = ap (λ v. d * v) after ∙ omega arith in
      let begun : x ≡ d * t + y = (let e = h.begins in omega (arith, e)) in
      let sum : y + z ≡ d * w = (let e = h.begins in let g = h.ends in omega (arith, e, g, all)) in
      let one = strays-low ps a b long n k t (let e = h.few in omega (arith, e)) h.took in
      let two = strays-low ps a b long n (k + 1) h.most (let e = h.few in omega (arith, e)) h.took_more in
      let more : n * h.most ≡ n * (t + w) = ap (λ v. n * v) after in
      let under : w * share ≤ y * unit = mul-div-le (y * unit) w in
      let over-strict : y * unit < w * (share + 1) = lt-mul-div-succ (y * unit) some in
      let over : y * unit ≤ w * (share + 1) = omega (arith, over-strict) in
      let high = part-high unit long n off d k t w y z share some sum one.0 (omega (arith, two.0, more)) under in
      let low = part-low unit long n off d k t w y z share some sum one.1 (omega (arith, two.1, more)) over in
      let is : passed ≡ d * (k * unit) + share = h.even in
      let is_long : passed * long ≡ (d * (k * unit) + share) * long = ap (λ v. v * long) is in
      let is_x : unit * (n * x) ≡ unit * (n * (d * t + y)) = ap (λ v. unit * (n * v)) begun in
      (omega (arith, high, is_long, is_x), omega (arith, low, is_long, is_x))

  -- wherever the event was
  pub holes-by : (passed : ℕ → ℕ) → HoleAs ps a b n d long passed → (x : ℕ) → x ≤ d * long → IsBy long n off d x (passed x)
  holes-by passed hole x le = elim (cases_lt x hole.event) [
    | inl early ↦ runs-by x (passed x) (hole.before x early)
    | inr late ↦
        let unit : ℕ = 1000000000000 in
        let left = d * units_of n - passed x in
        let back = runs-by (d * long - x) left (hole.after x late le) in
        let within = hole.within x late le in
        let code : passed x + left ≡ d * (n * unit) = omega (arith, within) in
        let time : x + (d * long - x) ≡ d * long = omega (arith, le) in
        let code_long : (passed x + left) * long ≡ d * (n * unit) * long = ap (λ v. v * long) code in
        let time_long : unit * (n * (x + (d * long - x))) ≡ unit * (n * (d * long)) = ap (λ v. unit * (n * v)) time in
        (omega (arith, back.1, code_long, time_long), omega (arith, back.0, code_long, time_long))
  ]

-- a line in whole microseconds of the code, `over` or one more, is off by no more than the bound
passes-by : (long d above passed bound : ℕ) → 0 < long → long * above + d ≤ long * (passed + 1 + d * bound) → 0 < d → above ≤ passed + d * bound
passes-by long d above passed bound some le more = elim (cases_lt (passed + d * bound) above) [
  | inl less ↦
      let next : passed + d * bound + 1 ≤ above = omega (arith, less) in
      let all : long * (passed + d * bound + 1) ≤ long * above = mul-le-mul_left long next in absurd (omega (arith, all, le, more))
  | inr ge ↦ ge
]

pub passes_alike : (f : FormatView) (ps : List Pulse) (a b : Frame) (long n bound d x : ℕ) → 0 < d → 0 < d * long → x ≤ d * long
    → strays_over ps long n a b + 1 ≤ bound → (passed : ℕ → ℕ) → HoleAs ps a b n d long passed
    → IsOver f bound d (passed x) (over_in f n x (d * long))
passes_alike f ps a b long n bound d x begun some le is passed hole =
    let all = d * long in
    let micros = n * interval_of f.kind in
    let over = x * micros / all in
    let unit = 1000000000000 / interval_of f.kind in
    let off = strays_most ps long n a b in
    let long_some : 0 < long = by-product d long some in
    let by = holes-by ps a b long n d passed hole x le in
    let whole : units_of n ≡ unit * micros = whole-units f.kind n in
    let share : x * units_of n ≡ unit * (x * micros) = ap (λ z. x * z) whole ∙ omega arith in
    let low : all * over ≤ x * micros = mul-div-le (x * micros) all in
    let high : x * micros < all * (over + 1) = lt-mul-div-succ (x * micros) some in
    let low_units : unit * (all * over) ≤ unit * (x * micros) = mul-le-mul_left unit low in
    let high_units : unit * (x * micros) ≤ unit * (all * (over + 1)) = mul-le-mul_left unit (omega (arith, high)) in
    let one_long : max 1 long ≡ long = omega (arith, long_some) in
    let strays_is : strays_over ps long n a b ≡ units_of off / long = ap (λ z. units_of off / z) one_long in
    let strict : units_of off < long * (units_of off / long + 1) = lt-mul-div-succ (units_of off) long_some in
    let wide : long * (units_of off / long + 1) ≤ long * bound = mul-le-mul_left long (omega (arith, is, strays_is)) in
    let strays : d * (units_of off + 1) ≤ d * (long * bound) = mul-le-mul_left d (omega (arith, strict, wide)) in (
      passes-by long d (d * units_in f over) (passed x) bound long_some (omega (arith, by.1, share, low_units, strays)) begun,
      passes-by long d (passed x) (d * units_in f (over + 1)) bound long_some (omega (arith, by.0, share, high_units, strays)) begun,
    )
  where
    by-product : (d long : ℕ) → 0 < d * long → 0 < long
    by-product d zero some = absurd (omega (arith, some))
    by-product d (suc l) some = omega arith
