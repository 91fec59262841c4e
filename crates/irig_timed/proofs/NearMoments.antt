-- The time that is printed for a moment is that of the code, as near as it says.
use Rattle.std.proofs.Common.{◌≡◌, ◌&&◌, inl, inr, ◌<◌, ◌≤◌, ◌+◌, ◌-◌, ◌*◌, ◌/◌, ℕ, nat_le, ◌==◌, Bool, true, false, cond, min, List, arith, refl, sym, ap, ◌∙◌}
use Rattle.std.proofs.Math.Nat.{lt-mul-div-succ, mul-div-le, mul-le-mul_left}
use Rattle.std.proofs.lemmas.Bool.{and_parts, cases_lt, eqb-true, leb-true}
use Rattle.irig_codes.specs.{Format.FormatView, Format.interval_of, declared.fields.Fields.Fields, declared.format.Kind.Kind}
use Rattle.irig_codes.specs.declared.format.Kind.TheVariants.{A, B, E, G}
use Rattle.irig_recording.specs.declared.pulse.Pulse.{Pulse}
use Rattle.irig_track.specs.Track.{IsLongTrack}
use Rattle.irig_times.specs.declared.time.Time.{Time}
use Rattle.irig_law.specs.{Holes.units_of, Hours.hour_micros, Printed.true_time}
use Rattle.irig_law.specs.declared.{frame.Frame.Frame}
use Rattle.irig_timed.specs.{Line.elements_after, Bends.bends_over, Bends.micros_up, Bends.off_over, Moments.IsMomentBy, Moments.frames_by}
use Rattle.irig_timed.specs.Line.{in_hour, is_back, over_in, since_hour}
use Rattle.irig_timed.specs.NearTimes.{IsNear, Passes, TimesAreNear}
use Rattle.irig_timed.specs.TrueMoments.{MomentsAreNear}
use Rattle.irig_timed.specs.{Bends.units_in, Truths.IsOver, Truths.IsTrue, Truths.MomentsAreTrue}
use Rattle.irig_timed.proofs.{NearLines.unscaled, NearLines.whole-units, TrueMoments.line-stretch, TrueMoments.not-over}

-- the minute of a time in its hour has begun
minute-low : (v : Bool) (m w : ℕ) → (v ≡ true → 60000000 * (m + 1) ≤ w) → 60000000 * cond v m (min 59 (w / 60000000)) ≤ w
minute-low true m w low = (let l = low refl in omega (arith, l))
minute-low false m w low = omega arith

hour-is : (t : Time) (w : ℕ) → hour_micros (in_hour t w) ≡ w
hour-is t w =
    let late = nat_le 60000000 t.micros in
    let low = minute-low (late && nat_le (60000000 * (t.minutes + 1)) w) t.minutes w (λ e. leb-true _ _ (and_parts _ _ e).1) in
    omega (arith, low)

-- `begun` and `ended` are from when to when a time is in its hour, `over` the microseconds of the line, `all` those of the whole, and
-- `more` is by how much the code can differ from them. A microsecond is `unit` / d.
module _ (unit over all more off passed : ℕ) (room : more + 1 ≤ off) (least : unit * over ≤ passed + unit * more)
    (most : passed ≤ unit * (over + 1) + unit * more) where
  wide : unit * (more + 1) ≤ unit * off
  wide = mul-le-mul_left unit room

  after-early : (begun : ℕ) → unit * (begun + over) ≤ unit * (begun + off) + passed
  after-early begun = omega (arith, least, wide)

  after-late : (begun : ℕ) → unit * begun + passed ≤ unit * (begun + over + off)
  after-late begun = omega (arith, most, wide)

  rest-early : (ended : ℕ) → over ≤ all → unit * all - passed ≤ unit * ended
      → unit * (ended - (all - over)) + (unit * all - passed) ≤ unit * (ended + off)
  rest-early ended le fits = elim (cases_lt ended (all - over)) [
    | inl less ↦
        let none : ended - (all - over) ≡ 0 = omega (arith, less) in
        let is : unit * (ended - (all - over)) ≡ unit * 0 = ap (λ z. unit * z) none in omega (arith, is, fits)
    | inr ge ↦
        let sum : ended ≡ ended - (all - over) + (all - over) = omega (arith, ge) in
        let is : unit * ended ≡ unit * (ended - (all - over)) + unit * (all - over) = ap (λ z. unit * z) sum ∙ omega arith in
        let parts : all ≡ over + (all - over) = omega (arith, le) in
        let whole : unit * all ≡ unit * over + unit * (all - over) = ap (λ z. unit * z) parts ∙ omega arith in
        omega (arith, is, whole, least, wide)
  ]

  rest-late : (ended : ℕ) → over ≤ all → unit * ended ≤ unit * (ended - (all - over) + off) + (unit * all - passed)
  rest-late ended le =
      let sum : ended ≤ ended - (all - over) + (all - over) = omega arith in
      let is : unit * ended ≤ unit * (ended - (all - over) + (all - over)) = mul-le-mul_left unit sum in
      let parts : all ≡ over + (all - over) = omega (arith, le) in
      let whole : unit * all ≡ unit * over + unit * (all - over) = ap (λ z. unit * z) parts ∙ omega arith in
      omega (arith, is, whole, most, wide)

-- a bound is at most its microseconds, rounded up
up-by : (v : Bool) (unit bound : ℕ) → 0 < unit → (v ≡ true → bound ≡ 0) → bound ≤ unit * cond v 0 ((bound - 1) / unit + 1)
up-by true unit bound some none = (let e = none refl in omega (arith, e))
up-by false unit bound some none = (let next = lt-mul-div-succ (bound - 1) some in omega (arith, next))

up-within : (f : FormatView) (bound : ℕ) → 0 < 1000000000000 / interval_of f.kind → bound ≤ 1000000000000 / interval_of f.kind * micros_up f bound
up-within f bound some = up-by (bound == 0) (1000000000000 / interval_of f.kind) bound some (eqb-true bound 0)

-- The shares of a whole in microseconds and in units are the same: `x` of `d * long` parts are over, and the whole is `all` microseconds.
module _ (d long unit x all units : ℕ) (some : 0 < long) (begun : 0 < d * long) (is : x * units ≡ unit * (x * all)) where
  over-low : d * unit * (x * all / (d * long)) ≤ x * units / long
  over-low =
      let over = x * all / (d * long) in
      let line = x * units / long in
      let low : d * long * over ≤ x * all = mul-div-le (x * all) (d * long) in
      let first : unit * (d * long * over) ≤ unit * (x * all) = mul-le-mul_left unit low in
      let high : x * units < long * (line + 1) = lt-mul-div-succ (x * units) some in
      elim (cases_lt line (d * unit * over)) [
        | inl less ↦
            let next : line + 1 ≤ d * unit * over = omega (arith, less) in
            let more : long * (line + 1) ≤ long * (d * unit * over) = mul-le-mul_left long next in absurd (omega (arith, more, first, high, is))
        | inr ge ↦ ge
      ]

  over-high : x * units / long ≤ d * unit * (x * all / (d * long) + 1)
  over-high =
      let over = x * all / (d * long) in
      let line = x * units / long in
      let low : long * line ≤ x * units = mul-div-le (x * units) long in
      let high : x * all < d * long * (over + 1) = lt-mul-div-succ (x * all) begun in
      let high-le : x * all ≤ d * long * (over + 1) = omega (arith, high) in
      let last : unit * (x * all) ≤ unit * (d * long * (over + 1)) = mul-le-mul_left unit high-le in
      unscaled long line (d * unit * (over + 1)) some (omega (arith, low, last, is))

unit-some : (f : FormatView) → 0 < 1000000000000 / interval_of f.kind
unit-some f = by-kind f.kind
  where
    by-kind : (k : Kind) → 0 < 1000000000000 / interval_of k
    by-kind A = omega arith
    by-kind B = omega arith
    by-kind E = omega arith
    by-kind G = omega arith

module _ (f : FormatView) (century micros : ℕ) (ps : List Pulse) (frames : List Frame) (track : IsLongTrack micros ps) (d n : ℕ) (some : 0 < d)
    (time : Time) (bound : ℕ) (m : IsMomentBy f century ps frames d n time bound) (name : ℕ → ℕ) (sent : ℕ → Fields)
    (true_at : IsTrue f century ps frames d n time bound m name sent) (passed : ℕ → ℕ) where
  abbrev many : ℕ
  many = elements_after f century m.from.point m.to.point

  abbrev unit : ℕ
  unit = 1000000000000 / interval_of f.kind

  abbrev part : ℕ
  part = n - d * m.point.rise

  abbrev long : ℕ
  long = m.next.rise - m.point.rise

  abbrev all : ℕ
  all = many * interval_of f.kind

  abbrev over : ℕ
  over = over_in f many part (d * long)

  abbrev off : ℕ
  off = off_over f ps frames m.from.number m.to.number bound

  within : (part ≤ d * long) × (0 < d * long)
  within = not-over f century micros ps frames track d n some time bound m

  long-some : 0 < long
  long-some = elim (cases_lt 0 long) [
    | inl less ↦ less
    | inr none ↦ (let is : d * long ≡ d * 0 = ap (λ z. d * z) (let e : long ≡ 0 = omega (arith, none) in e) in absurd (omega (arith, is, within.1)))
  ]

  -- the line is not past its end
  over-all : over ≤ all
  over-all =
      let low : d * long * over ≤ part * all = mul-div-le (part * all) (d * long) in
      let most : all * part ≤ all * (d * long) = mul-le-mul_left all within.0 in
      unscaled (d * long) over all within.1 (omega (arith, low, most))

  -- it is by the first pulse, or by the second one
  by-side : (more : ℕ) → more + 1 ≤ off → d * unit * over ≤ passed part + d * unit * more → passed part ≤ d * unit * (over + 1) + d * unit * more
      → (back : Bool) → time ≡ cond back (in_hour m.to.point.frame (since_hour f m.to.point - (all - over)))
      (in_hour m.from.point.frame (since_hour f m.from.point + over))
      → IsNear f century ps frames d n time bound m name sent passed
  by-side more room least most false is =
      let since = since_hour f m.from.point in
      let begin = true_time f sent (name m.from.number) in
      let there : hour_micros time ≡ since + over = ap hour_micros is ∙ hour-is m.from.point.frame (since + over) in
      let here : hour_micros begin ≡ since = sym (ap hour_micros true_at.begins) ∙ omega arith in
      let now : d * units_in f (hour_micros time) ≡ d * unit * (since + over) = ap (λ z. d * (z * unit)) there ∙ omega arith in
      let sum : d * units_in f (hour_micros begin + off) ≡ d * unit * (since + off) = ap (λ z. d * ((z + off) * unit)) here ∙ omega arith in
      let first : d * units_in f (hour_micros begin) ≡ d * unit * since = ap (λ z. d * (z * unit)) here ∙ omega arith in
      let last : d * units_in f (hour_micros time + off) ≡ d * unit * (since + over + off) = ap (λ z. d * ((z + off) * unit)) there ∙ omega arith in
      let early = after-early (d * unit) over all more off (passed part) room least most since in
      let late = after-late (d * unit) over all more off (passed part) room least most since in
      inl (record {
        year = ap (λ t. t.year) is ∙ ap (λ t. t.year) true_at.begins;
        day = ap (λ t. t.days) is ∙ ap (λ t. t.days) true_at.begins;
        hour = ap (λ t. t.hours) is ∙ ap (λ t. t.hours) true_at.begins;
        early = omega (arith, now, sum, early);
        late = omega (arith, first, last, late);
      })
  by-side more room least most true is =
      let since = since_hour f m.to.point in
      let end = true_time f sent (name m.to.number) in
      let rest = all - over in
      let there : hour_micros time ≡ since - rest = ap hour_micros is ∙ hour-is m.to.point.frame (since - rest) in
      let here : hour_micros end ≡ since = sym (ap hour_micros true_at.ends) ∙ omega arith in
      let now : d * units_in f (hour_micros time) ≡ d * unit * (since - rest) = ap (λ z. d * (z * unit)) there ∙ omega arith in
      let sum : d * units_in f (hour_micros end + off) ≡ d * unit * (since + off) = ap (λ z. d * ((z + off) * unit)) here ∙ omega arith in
      let first : d * units_in f (hour_micros end) ≡ d * unit * since = ap (λ z. d * (z * unit)) here ∙ omega arith in
      let last : d * units_in f (hour_micros time + off) ≡ d * unit * (since - rest + off) = ap (λ z. d * ((z + off) * unit)) there ∙ omega arith in
      let units : d * units_of many ≡ d * unit * all = ap (λ z. d * z) (whole-units f.kind many) ∙ omega arith in
      let left : d * units_of many - passed part ≡ d * unit * all - passed part = ap (λ z. z - passed part) units in
      inr (record {
        year = ap (λ t. t.year) is ∙ ap (λ t. t.year) true_at.ends;
        day = ap (λ t. t.days) is ∙ ap (λ t. t.days) true_at.ends;
        hour = ap (λ t. t.hours) is ∙ ap (λ t. t.hours) true_at.ends;
        early = λ fits.
            let early = rest-early (d * unit) over all more off (passed part) room least most since over-all (omega (arith, fits, left, first)) in
            omega (arith, now, sum, left, early);
        late = (let late = rest-late (d * unit) over all more off (passed part) room least most since over-all in omega (arith, first, last, left, late));
      })

  -- over a hole, a short one or a long one
  over-hole : Passes f century ps frames d n time bound m passed → 0 < bound
      → IsOver f (bound + units_in f (bends_over f ps frames m.from.number m.to.number)) d (passed part) over
  over-hole passes bounded =
      let bends = bends_over f ps frames m.from.number m.to.number in
      let s = line-stretch f ps frames m.from.number m.to.number many bound bounded m.line in
      elim (cases_lt many 100) [
        | inl less ↦ true_at.alike s.0.0 s.0.1 s.1 bounded less passed (passes.short s.0.0 s.0.1 s.1 bounded less)
        | inr more ↦
            let nearly = true_at.passes s.0.0 s.0.1 s.1 bounded more passed (passes.long s.0.0 s.0.1 s.1 bounded more) in
            let wider : d * bound ≤ d * (bound + units_in f bends) = mul-le-mul_left d (omega arith) in
            (omega (arith, nearly.0, wider), omega (arith, nearly.1, wider))
      ]

  pub near : Passes f century ps frames d n time bound m passed → IsNear f century ps frames d n time bound m name sent passed
  near passes =
      let bends = bends_over f ps frames m.from.number m.to.number in
      elim (cases_lt 0 bound) [
        | inl bounded ↦
            let up = micros_up f bound in
            let nearly = over-hole passes bounded in
            let least : bound ≤ unit * up = up-within f bound (unit-some f) in
            let most : d * (bound + unit * bends) ≤ d * (unit * (up + bends)) = mul-le-mul_left d (omega (arith, least)) in
            by-side (up + bends) (omega arith) (omega (arith, nearly.0, most)) (omega (arith, nearly.1, most))
            (is_back f m.from.point m.to.point over) m.is
        | inr none ↦
            let even = passes.even (omega (arith, none)) in
            let units : part * units_of many ≡ unit * (part * all) = ap (λ z. part * z) (whole-units f.kind many) ∙ omega arith in
            let low = over-low d long unit part all (units_of many) long-some within.1 units in
            let high = over-high d long unit part all (units_of many) long-some within.1 units in
            by-side bends (omega arith) (omega (arith, even.1, low)) (omega (arith, even.0, high))
            (is_back f m.from.point m.to.point over) m.is
      ]

pub times_are_near : MomentsAreTrue → TimesAreNear
times_are_near moments f century micros ps frames name sent track story d n some time bound m passed passes =
    near f century micros ps frames track d n some time bound m name sent
    (moments f century micros ps frames name sent track story d n some time bound m) passed passes

pub moments_are_near : TimesAreNear → MomentsAreNear
moments_are_near near f alone century ps d n some x micros name sent track story m passed passes =
    near f century micros ps (frames_by f alone century ps) name sent track story d n some x.time x.bound m.0 passed passes
