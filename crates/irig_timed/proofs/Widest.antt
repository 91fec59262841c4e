-- A line is off by a fiftieth of an interval at most.
use Rattle.std.proofs.Common.{◌≡◌, ◌&&◌, ◌==◌, ◌≤◌, ℕ, nat_le, nat_lt, Bool, true, false, cond, List, Option, Some, None, arith, refl}
use Rattle.std.proofs.lemmas.Bool.{and_parts, leb-true}
use Rattle.irig_codes.specs.Format.{FormatView}
use Rattle.irig_recording.specs.declared.pulse.Pulse.{Pulse}
use Rattle.irig_times.specs.Steps.{micros_between}
use Rattle.irig_times.specs.declared.why.Why.TheVariants.{Hole, Step}
use Rattle.irig_law.specs.{Holes.rate_of, Holes.units_of, Holes.Rate, Clocks.clock_of, Clocks.slack_of}
use Rattle.irig_law.specs.declared.frame.Frame.{Frame}
use Rattle.irig_timed.specs.{Line.elements_after, Bends.bends_over, Stretches.stretch_at, Strays.strays_by}
use Rattle.irig_timed.specs.Gaps.{gap_between, gap_by, gap_over, is_event, is_free, is_step, off_in, widest}
use Rattle.irig_timed.specs.declared.{gap.Gap.Gap, run.Place.Place}
use Rattle.irig_timed.specs.declared.gap.Gap.TheVariants.{Line, Untimed}
use Rattle.irig_timed.proofs.MomentFacts.{same-bound}

by-rate : (v w : Bool) (off bound : ℕ) → (v ≡ true → off ≤ 20000000000) → cond v (Line off) (cond w (Untimed Step) (Untimed Hole)) ≡ Line bound
    → bound ≤ 20000000000
by-rate true w off bound low is = (let e = same-bound off bound is in let l = low refl in omega (arith, l, e))
by-rate false true off bound low is = absurd (cc is)
by-rate false false off bound low is = absurd (cc is)

by-clock : (v free : Bool) (r : Rate) (off long units bound : ℕ) → cond v (gap_by free r off long units) (Untimed Hole) ≡ Line bound
    → bound ≤ 20000000000
by-clock true free r off long units bound is =
    by-rate (free && nat_le off widest) (is_event r long units) off bound (λ e. leb-true off widest (and_parts _ _ e).1) is
by-clock false free r off long units bound is = absurd (cc is)

by-stretch : (f : FormatView) (ps : List Pulse) (free : Bool) (s : Option (Frame × Frame)) (bends long n bound : ℕ)
    → gap_over f ps free s bends long n ≡ Line bound → bound ≤ 20000000000
by-stretch f ps free None bends long n bound is = absurd (cc is)
by-stretch f ps free (Some s) bends long n bound is =
    let c = clock_of f ps s.0 (slack_of ps s.0 s.1) in
    let off = off_in (rate_of c) (strays_by f ps bends s long n) long n in
    by-clock (nat_lt c.slack c.span) free (rate_of c) off long (units_of n) bound is

by-words : (v w : Bool) (gap : Gap) (bound : ℕ) → (gap ≡ Line bound → bound ≤ 20000000000) → cond v (Line 0) (cond w (Untimed Step) gap) ≡ Line bound
    → bound ≤ 20000000000
by-words true w gap bound low is = (let e = same-bound 0 bound is in omega (arith, e))
by-words false true gap bound low is = absurd (cc is)
by-words false false gap bound low is = low is

pub line-low : (f : FormatView) (century : ℕ) (ps : List Pulse) (frames : List Frame) (p q : Place) (bound : ℕ)
    → gap_between f century ps frames p q ≡ Line bound → bound ≤ 20000000000
line-low f century ps frames p q bound is =
    let n = elements_after f century p.point q.point in
    let long = micros_between ps p.number q.number in
    let free = is_free f ps p.number q.number in
    let bends = bends_over f ps frames p.number q.number in
    by-words (is_step f ps p.number q.number n) (n == 0) (gap_over f ps free (stretch_at frames p.number) bends long n) bound
    (by-stretch f ps free (stretch_at frames p.number) bends long n bound) is
