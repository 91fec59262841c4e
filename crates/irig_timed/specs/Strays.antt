-- How far rises stray from the line over a hole, in the believed frames around it. This project's
-- own.
use Rattle.std.specs.Prelude.{ℕ, ◌+◌, ◌-◌, ◌*◌, ◌/◌, min, max, nat_lt, List, if◌then◌else◌}
use Rattle.irig_codes.specs.Format.{FormatView}
use Rattle.irig_recording.specs.declared.pulse.Pulse.{Pulse}
use Rattle.irig_times.specs.Steps.{micros_between}
use Rattle.irig_law.specs.{Clocks.apart, Holes.units_of, declared.frame.Frame.Frame}
use Rattle.irig_timed.specs.Bends.{greatest, units_in}

-- A line goes over n elements in `long` microseconds. If it goes through the rise of one pulse,
-- this is how far it is from that of a later one, in nths of a microsecond.
abbrev pub line_off : List Pulse → ℕ → ℕ → ℕ → ℕ → ℕ
line_off ps long n p q = apart ((q - p) * long) (n * micros_between ps p q)

-- the most of the pulses up to n elements later, and before another one
abbrev pub most_after : List Pulse → ℕ → ℕ → ℕ → ℕ → ℕ
most_after ps long n end p =
    greatest (line_off ps long n p) (p + 1) (min end (p + n + 1) - (p + 1))

-- of all pulses of a frame
abbrev pub strays_in : List Pulse → ℕ → ℕ → ℕ → ℕ
strays_in ps long n marker =
    greatest (most_after ps long n (marker + 100)) marker (marker + 100 - marker)

-- in the two frames around
abbrev pub strays_most : List Pulse → ℕ → ℕ → Frame → Frame → ℕ
strays_most ps long n a b = max (strays_in ps long n a.marker) (strays_in ps long n b.marker)

-- in units
abbrev pub strays_over : List Pulse → ℕ → ℕ → Frame → Frame → ℕ
strays_over ps long n a b = units_of (strays_most ps long n a b) / max 1 long

-- By how much more than time bends, as each time is off by that, too; and one for the rounding. A
-- frame shows no more than 99 elements.
abbrev pub strays_by : FormatView → List Pulse → ℕ → Frame × Frame → ℕ → ℕ → ℕ
strays_by f ps bends s long n =
    if nat_lt n 100 then strays_over ps long n s.0 s.1 - units_in f bends + 1 else 0
