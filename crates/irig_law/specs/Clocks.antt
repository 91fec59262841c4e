-- The recorder's clock, as believed frames show it. This project's own.
use Rattle.std.specs.Prelude.{ℕ, ◌+◌, ◌-◌, ◌*◌, ◌/◌, max, List}
use Rattle.irig_codes.specs.Format.{FormatView, interval_of}
use Rattle.irig_recording.specs.declared.pulse.Pulse.{Pulse}
use Rattle.irig_times.specs.Steps.{micros_between}
use Rattle.irig_law.specs.{declared.clock.Clock.Clock, declared.frame.Frame.Frame}

-- how far two numbers are apart
abbrev pub apart : ℕ → ℕ → ℕ
apart m n = (m - n) + (n - m)

-- how long the 99 intervals of a frame last
abbrev pub span_of : List Pulse → Frame → ℕ
span_of ps p = micros_between ps p.marker (p.marker + 99)

-- by how many ninety-ninths of a microsecond the 24 intervals from an element on differ from as
-- many of the whole frame, in the mean
abbrev pub strays : List Pulse → Frame → ℕ → ℕ
strays ps p e =
    apart (99 * micros_between ps (p.marker + e) (p.marker + e + 24)) (24 * span_of ps p) / 24

abbrev pub strays_most : List Pulse → Frame → ℕ
strays_most ps p =
    max (max (strays ps p 0) (strays ps p 24)) (max (strays ps p 48) (strays ps p 72))

-- how much the clock strays between two frames: as in them, as they differ, or by two parts in a
-- hundred thousand
abbrev pub slack_of : List Pulse → Frame → Frame → ℕ
slack_of ps a b =
    max (max (strays_most ps a) (strays_most ps b)) (apart (span_of ps a) (span_of ps b))
    + span_of ps a / 50000 + 1

-- At an end of the recording no second frame shows how much it strays: a thousandth.
abbrev pub end_slack : List Pulse → Frame → ℕ
end_slack ps p = span_of ps p / 1000 + 1

-- the clock of a frame; a rise is at its place to a tenth of an interval
abbrev pub clock_of : FormatView → List Pulse → Frame → ℕ → Clock
clock_of f ps p slack =
    record { span = span_of ps p; slack = slack; tenth = 99 * interval_of f.kind / 10 }
