-- How far a printed time can be off, in microseconds. This project's own.
use Rattle.std.specs.Prelude.{ℕ, zero, suc, ◌+◌, ◌-◌, ◌*◌, ◌/◌, ◌==◌, ◌&&◌, max, List, Option, Some}
use Rattle.std.specs.Prelude.{None, if◌then◌else◌}
use Rattle.irig_codes.specs.{Format.FormatView, Format.interval_of, Width.is_in_step}
use Rattle.irig_recording.specs.declared.pulse.Pulse.{Pulse}
use Rattle.irig_times.specs.Steps.{micros_between}
use Rattle.irig_law.specs.{Clocks.apart, declared.frame.Frame.Frame}
use Rattle.irig_timed.specs.Stretches.{last_by, next_by}

-- by how much two steps next to each other differ, if both are an interval, to a tenth
abbrev pub bend_of : FormatView → ℕ → ℕ → ℕ
bend_of f one other =
    if is_in_step f one && is_in_step f other then apart one other else 0

-- the step to a pulse and the one from it
abbrev pub bend_at : FormatView → List Pulse → ℕ → ℕ
bend_at f ps k = bend_of f (micros_between ps (k - 1) k) (micros_between ps k (k + 1))

-- the greatest of n numbers from one on
abbrev pub greatest : (ℕ → ℕ) → ℕ → ℕ → ℕ
greatest value k zero = 0
greatest value k (suc n) = max (value k) (greatest value (k + 1) n)

-- within a frame: of its elements but the first and the last
abbrev pub most_within : FormatView → List Pulse → ℕ → ℕ
most_within f ps marker = greatest (bend_at f ps) (marker + 1) (marker + 99 - (marker + 1))

abbrev pub most_in : FormatView → List Pulse → Option Frame → ℕ
most_in f ps None = 0
most_in f ps (Some a) = most_within f ps a.marker

-- in the two believed frames around a pulse
abbrev pub most_around : FormatView → List Pulse → List Frame → ℕ → ℕ
most_around f ps frames k =
    max (most_in f ps (last_by frames k)) (most_in f ps (next_by frames k))

-- the microseconds, rounded up, of a bound in trillionths of an interval
abbrev pub micros_up : FormatView → ℕ → ℕ
micros_up f bound =
    if bound == 0 then 0 else (bound - 1) / (1000000000000 / interval_of f.kind) + 1

-- the units in some microseconds of the code
abbrev pub units_in : FormatView → ℕ → ℕ
units_in f micros = micros * (1000000000000 / interval_of f.kind)

-- the most by which time bends between two pulses: at them, or in the frames around
abbrev pub bends_over : FormatView → List Pulse → List Frame → ℕ → ℕ → ℕ
bends_over f ps frames one other =
    max (most_around f ps frames one) (max (bend_at f ps one) (bend_at f ps other))

-- The time between two pulses can be off by the bound of their line, and by as much as time bends
-- there. Two microseconds are for rises, which are recorded in whole ones, and for what is printed.
abbrev pub off_over : FormatView → List Pulse → List Frame → ℕ → ℕ → ℕ → ℕ
off_over f ps frames one other bound =
    micros_up f bound + bends_over f ps frames one other + 2
