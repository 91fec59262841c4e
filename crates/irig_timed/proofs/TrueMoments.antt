-- The time of each moment is true, to its bound.
use Rattle.std.proofs.Common.{◌≡◌, ◌&&◌, ◌==◌, inl, inr, ◌<◌, ◌≤◌, ◌+◌, ◌-◌, ◌*◌, ◌/◌, ℕ, nat_le, nat_lt, Bool, true, false, cond, List, Option, Some, None, arith, refl, sym, ap, ◌∙◌}
use Rattle.std.proofs.Math.Nat.{lt-mul-div-succ, mul-le-mul_left}
use Rattle.std.proofs.lemmas.Bool.{cases_lt, le-ltb, lt-ltb}
use Rattle.irig_codes.specs.{Format.FormatView}
use Rattle.irig_recording.specs.declared.pulse.Pulse.{Pulse}
use Rattle.irig_track.specs.{Track.IsLongTrack}
use Rattle.irig_track.proofs.Searches.{risen_above, risen_below}
use Rattle.irig_times.specs.{Steps.apart, Steps.micros_between, declared.time.Time.Time}
use Rattle.irig_times.specs.declared.why.Why.TheVariants.{Hole, Step}
use Rattle.irig_law.specs.{Holes.rate_of, Holes.units_of, Holes.Rate, Clocks.clock_of, Clocks.slack_of}
use Rattle.irig_law.specs.declared.{frame.Frame.Frame}
use Rattle.irig_law.specs.{Holes.HolesAreBounded, Theorem.TimesAreTrue}
use Rattle.irig_timed.specs.{Line.elements_after, Bends.bends_over, Bends.units_in, Moments.IsMomentBy, Stretches.stretch_at}
use Rattle.irig_timed.specs.{Truths.MomentsAreTrue, Strays.strays_by, Strays.strays_over}
use Rattle.irig_timed.specs.Gaps.{gap_by, gap_of, gap_over, is_event, is_free, is_step, most_off, off_in, widest}
use Rattle.irig_timed.specs.declared.gap.Gap.{Gap}
use Rattle.irig_timed.specs.declared.gap.Gap.TheVariants.{Line, Untimed}
use Rattle.irig_timed.proofs.{NearLines.passes_nearly, StrayLines.passes_alike}

abbrev bound-of : Gap → ℕ
bound-of (Line bound) = bound
bound-of (Untimed why) = 0

-- a line with a bound has that of the clock
by-rate : (v w : Bool) (off bound : ℕ) → 0 < bound → cond v (Line off) (cond w (Untimed Step) (Untimed Hole)) ≡ Line bound → bound ≡ off
by-rate true w off bound some is = sym (ap bound-of is)
by-rate false true off bound some is = absurd (let none : 0 ≡ bound = ap bound-of is in omega (arith, none, some))
by-rate false false off bound some is = absurd (let none : 0 ≡ bound = ap bound-of is in omega (arith, none, some))

by-clock : (v free : Bool) (r : Rate) (off long units bound : ℕ) → 0 < bound → cond v (gap_by free r off long units) (Untimed Hole) ≡ Line bound
    → bound ≡ off
by-clock true free r off long units bound some is = by-rate (free && nat_le off widest) (is_event r long units) off bound some is
by-clock false free r off long units bound some is = absurd (let none : 0 ≡ bound = ap bound-of is in omega (arith, none, some))

by-words : (v w : Bool) (gap : Gap) (bound : ℕ) → 0 < bound → cond v (Line 0) (cond w (Untimed Step) gap) ≡ Line bound → gap ≡ Line bound
by-words true w gap bound some is = absurd (let none : 0 ≡ bound = ap bound-of is in omega (arith, none, some))
by-words false true gap bound some is = absurd (let none : 0 ≡ bound = ap bound-of is in omega (arith, none, some))
by-words false false gap bound some is = is

pub bound-is : (f : FormatView) (ps : List Pulse) (frames : List Frame) (one other n bound : ℕ) → 0 < bound
    → gap_of f ps frames one other n ≡ Line bound → (a b : Frame) → stretch_at frames one ≡ Some (a, b)
    → bound ≡ off_in (rate_of (clock_of f ps a (slack_of ps a b)))
    (strays_by f ps (bends_over f ps frames one other) (a, b) (micros_between ps one other) n) (micros_between ps one other) n
bound-is f ps frames one other n bound some is a b at =
    let c = clock_of f ps a (slack_of ps a b) in
    let long = micros_between ps one other in
    let free = is_free f ps one other in
    let bends = bends_over f ps frames one other in
    let off = off_in (rate_of c) (strays_by f ps bends (a, b) long n) long n in
    let over = by-words (is_step f ps one other n) (n == 0) (gap_over f ps free (stretch_at frames one) bends long n) bound some is in
    by-clock (nat_lt c.slack c.span) free (rate_of c) off long (units_of n) bound some (ap (λ s. gap_over f ps free s bends long n) (sym at) ∙ over)

some-stretch : (f : FormatView) (ps : List Pulse) (free : Bool) (s : Option (Frame × Frame)) (bends long n bound : ℕ)
    → gap_over f ps free s bends long n ≡ Line bound → (x : Frame × Frame) × (s ≡ Some x)
some-stretch f ps free None bends long n bound is = absurd (cc is)
some-stretch f ps free (Some x) bends long n bound is = (x, refl)

-- it is in a stretch
pub line-stretch : (f : FormatView) (ps : List Pulse) (frames : List Frame) (one other n bound : ℕ) → 0 < bound
    → gap_of f ps frames one other n ≡ Line bound → (x : Frame × Frame) × (stretch_at frames one ≡ Some x)
line-stretch f ps frames one other n bound some is =
    let long = micros_between ps one other in
    let free = is_free f ps one other in
    let bends = bends_over f ps frames one other in
    some-stretch f ps free (stretch_at frames one) bends long n bound
    (by-words (is_step f ps one other n) (n == 0) (gap_over f ps free (stretch_at frames one) bends long n) bound some is)

module _ (f : FormatView) (century micros : ℕ) (ps : List Pulse) (frames : List Frame) (track : IsLongTrack micros ps) (d n : ℕ) (some : 0 < d)
    (time : Time) (bound : ℕ) (m : IsMomentBy f century ps frames d n time bound) where
  -- the moment is not before the first pulse rises, and before the second one does
  begun : m.point.rise ≤ n / d
  begun = elim (cases_lt (n / d) m.point.rise) [
    | inl early ↦
        let few = risen_below (n / d) 0 m.from.number m.point ps track.rises m.stands early in
        let last = m.around.last.0 in absurd (omega (arith, few, last))
    | inr ge ↦ ge
  ]

  to-come : n / d < m.next.rise
  to-come = elim (cases_lt (n / d) m.next.rise) [
    | inl early ↦ early
    | inr ge ↦
        let more = risen_above (n / d) 0 m.to.number m.next ps track.rises m.stands_next ge in
        let next = m.around.next.0 in absurd (omega (arith, more, next))
  ]

  pub not-over : (n - d * m.point.rise ≤ d * (m.next.rise - m.point.rise)) × (0 < d * (m.next.rise - m.point.rise))
  not-over =
      let long = m.next.rise - m.point.rise in
      let order : m.next.rise ≡ m.point.rise + long = omega (arith, begun, to-come) in
      let all : d * m.next.rise ≡ d * m.point.rise + d * long = ap (λ z. d * z) order ∙ omega arith in
      let last : n < d * (n / d + 1) = lt-mul-div-succ n some in
      let next : d * (n / d + 1) ≤ d * m.next.rise = mul-le-mul_left d (let h = to-come in omega (arith, h)) in
      let first : d * 1 ≤ d * long = mul-le-mul_left d (let h = to-come in let g = begun in omega (arith, h, g, order)) in
      (omega (arith, all, last, next), omega (arith, first, some))

  pub long-is : micros_between ps m.from.number m.to.number ≡ m.next.rise - m.point.rise
  long-is = λ i. apart (m.stands i) (m.stands_next i)

pub moments_are_true : TimesAreTrue → HolesAreBounded → MomentsAreTrue
moments_are_true times_true bridges f century micros ps frames name sent track story d n some time bound m = record {
  begins = times_true f century ps frames name sent story m.from.number m.from.point m.around.last.1.point;
  ends = times_true f century ps frames name sent story m.to.number m.to.point m.around.next.1.point;
  passes = λ a b at bounded more.
      let r = rate_of (clock_of f ps a (slack_of ps a b)) in
      let many = elements_after f century m.from.point m.to.point in
      let bends = bends_over f ps frames m.from.number m.to.number in
      let long = long-is f century micros ps frames track d n some time bound m in
      let within = not-over f century micros ps frames track d n some time bound m in
      let is = bound-is f ps frames m.from.number m.to.number many bound bounded m.line a b at
      ∙ ap (λ z. off_in r (strays_by f ps bends (a, b) z many) z many) long
      ∙ ap (λ v. cond v (strays_by f ps bends (a, b) (m.next.rise - m.point.rise) many) (most_off r (m.next.rise - m.point.rise) (units_of many)))
      (le-ltb many 100 more) in
      passes_nearly bridges f r (m.next.rise - m.point.rise) many bound d (n - d * m.point.rise) within.1 within.0 is;
  alike = λ a b at bounded less.
      let r = rate_of (clock_of f ps a (slack_of ps a b)) in
      let many = elements_after f century m.from.point m.to.point in
      let bends = bends_over f ps frames m.from.number m.to.number in
      let longs = m.next.rise - m.point.rise in
      let long = long-is f century micros ps frames track d n some time bound m in
      let within = not-over f century micros ps frames track d n some time bound m in
      let few = lt-ltb many 100 less in
      let is = bound-is f ps frames m.from.number m.to.number many bound bounded m.line a b at
      ∙ ap (λ z. off_in r (strays_by f ps bends (a, b) z many) z many) long
      ∙ ap (λ v. cond v (strays_by f ps bends (a, b) longs many) (most_off r longs (units_of many))) few
      ∙ ap (λ v. cond v (strays_over ps longs many a b - units_in f bends + 1) 0) few in
      passes_alike f ps a b longs many (bound + units_in f bends) d (n - d * m.point.rise) some within.1 within.0 (omega (arith, is));
}
