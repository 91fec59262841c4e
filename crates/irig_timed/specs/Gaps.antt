-- What is between two pulses with a time, next to each other: a line that is nearly right, or why
-- nothing there has a time. This project's own.
use Rattle.std.specs.Prelude.{ℕ, ◌+◌, ◌-◌, ◌*◌, ◌==◌, ◌&&◌, ◌||◌, nat_le, nat_lt, max, Bool, not}
use Rattle.std.specs.Prelude.{List, Option, Some, None, if◌then◌else◌}
use Rattle.irig_codes.specs.{Format.FormatView, Width.is_in_step}
use Rattle.irig_recording.specs.declared.pulse.Pulse.{Pulse}
use Rattle.irig_times.specs.{Steps.micros_between, declared.why.Why.TheVariants.After}
use Rattle.irig_times.specs.declared.why.Why.TheVariants.{Before, Hole, Step}
use Rattle.irig_law.specs.{Clocks.clock_of, Clocks.slack_of, Holes.rate_of, Holes.units_of}
use Rattle.irig_law.specs.{Holes.Rate, OfOne.any_from, Rows.is_clean, declared.clock.Clock.Clock}
use Rattle.irig_law.specs.declared.frame.Frame.{Frame}
use Rattle.irig_timed.specs.{Line.elements_after, Bends.bends_over, Stretches.stretch_at}
use Rattle.irig_timed.specs.{Strays.strays_by, declared.gap.Gap.Gap}
use Rattle.irig_timed.specs.declared.gap.Gap.TheVariants.{Line, Untimed}
use Rattle.irig_timed.specs.declared.run.Place.{Place}

-- Some units of the code pass by the times of two pulses, and by a clock some at least and at most.
-- By how far these differ the line can be off, wherever something was lost; one is for rounding.
abbrev pub most_off : Rate → ℕ → ℕ → ℕ
most_off r long units = max (r.most * long - units) (units - r.least * long) + 1

-- a fiftieth of an interval
abbrev pub widest : ℕ
widest = 20000000000

-- the clock shows another number of elements, by more than half an interval
abbrev pub is_event : Rate → ℕ → ℕ → Bool
is_event r long units =
    nat_lt (r.most * long + 500000000000) units
    || nat_lt (units + 500000000000) (r.least * long)

-- there can be a line if the gap is free
abbrev pub gap_by : Bool → Rate → ℕ → ℕ → ℕ → Gap
gap_by free r off long units =
    if free && nat_le off widest then Line off
    else (if is_event r long units then Untimed Step else Untimed Hole)

-- Up to 99 elements it is off by what rises stray: a frame has no more intervals.
abbrev pub off_in : Rate → ℕ → ℕ → ℕ → ℕ
off_in r strays long n = if nat_lt n 100 then strays else most_off r long (units_of n)

abbrev pub gap_in : Bool → Clock → ℕ → ℕ → ℕ → Gap
gap_in free c strays long n =
    if nat_lt c.slack c.span
    then gap_by free (rate_of c) (off_in (rate_of c) strays long n) long (units_of n)
    else Untimed Hole

-- the same by the clock of the frames around; at an end of the recording none are
abbrev pub gap_over : FormatView → List Pulse → Bool → Option (Frame × Frame) → ℕ → ℕ → ℕ → Gap
gap_over f ps free None bends long n = Untimed Hole
gap_over f ps free (Some s) bends long n =
    gap_in free (clock_of f ps s.0 (slack_of ps s.0 s.1)) (strays_by f ps bends s long n) long n

-- a gap is free if no pulse in it is clean: one without a time would show something else
abbrev pub is_free : FormatView → List Pulse → ℕ → ℕ → Bool
is_free f ps one other = not (any_from (is_clean f ps) (one + 1) (other - (one + 1)))

-- two pulses are next to each other, in step, and one element apart
abbrev pub is_step : FormatView → List Pulse → ℕ → ℕ → ℕ → Bool
is_step f ps one other n =
    (other == one + 1) && ((n == 1) && is_in_step f (micros_between ps one other))

-- of pulses that are n elements apart; a step is even, whatever the clock shows
abbrev pub gap_of : FormatView → List Pulse → List Frame → ℕ → ℕ → ℕ → Gap
gap_of f ps frames one other n =
    if is_step f ps one other n then Line 0
    else (if n == 0 then Untimed Step
    else gap_over f ps (is_free f ps one other) (stretch_at frames one)
    (bends_over f ps frames one other) (micros_between ps one other) n)

abbrev pub gap_between : FormatView → ℕ → List Pulse → List Frame → Place → Place → Gap
gap_between f century ps frames p q =
    gap_of f ps frames p.number q.number (elements_after f century p.point q.point)

-- also before the first such pulse, and after the last one
abbrev pub gap_at : FormatView → ℕ → List Pulse → List Frame → Option Place → Option Place → Gap
gap_at f century ps frames None to = Untimed Before
gap_at f century ps frames (Some p) None = Untimed After
gap_at f century ps frames (Some p) (Some q) = gap_between f century ps frames p q
