-- How many elements two pulses that have a time are apart, and the time on the line between them.
-- This project's own.
use Rattle.std.specs.Prelude.{ℕ, ◌+◌, ◌-◌, ◌*◌, ◌/◌, ◌&&◌, ◌||◌, nat_le, nat_lt, Bool}
use Rattle.std.specs.Prelude.{if◌then◌else◌, min, Option, Some, None}
use Rattle.irig_codes.specs.Format.{FormatView, interval_of, frame_period_of}
use Rattle.irig_times.specs.{Starts.share, declared.time.Time.Time, Follows.same_time}
use Rattle.irig_law.specs.{Hours.hour_micros, declared.point.Point.Point, Fits.periods_apart}

-- how many periods one frame of the code is after another: none, if they have one time
abbrev pub periods_after : FormatView → ℕ → Time → Time → Option ℕ
periods_after f century t u =
    if same_time t u then Some 0 else periods_apart century (frame_period_of f.kind) t u

abbrev pub elements_by : Option ℕ → ℕ → ℕ → ℕ
elements_by None e g = 0
elements_by (Some n) e g = 100 * n + g - e

-- 0, if it is not after it, or no whole periods
abbrev pub elements_after : FormatView → ℕ → Point → Point → ℕ
elements_after f century x y =
    elements_by (periods_after f century x.frame y.frame) x.element y.element

-- the microseconds from the begin of an hour to a pulse, in the hour of its frame
abbrev pub since_hour : FormatView → Point → ℕ
since_hour f x = hour_micros x.frame + x.element * interval_of f.kind

-- how far one can count on from a time: to the end of the second 60 that it is in, or of its hour
abbrev pub counts_to : Time → ℕ
counts_to t =
    if nat_le 60000000 t.micros then 60000000 * t.minutes + 61000000 else 3600000000

-- a pulse is not past that, and an element of a frame that begins in a minute
abbrev pub is_in_hour : FormatView → Point → Bool
is_in_hour f x =
    nat_lt x.element 100
    && (nat_lt x.frame.micros 61000000 && nat_lt (since_hour f x) (counts_to x.frame))

-- the minute in the hour of a time, w microseconds after that hour began; a second 60 that the time
-- is in belongs to its minute
abbrev pub minute_at : Time → ℕ → ℕ
minute_at t w =
    if nat_le 60000000 t.micros && nat_le (60000000 * (t.minutes + 1)) w then t.minutes
    else min 59 (w / 60000000)

-- the time then
abbrev pub in_hour : Time → ℕ → Time
in_hour t w = record t { minutes = minute_at t w; micros = w - 60000000 * minute_at t w }

-- the time is counted back from the second pulse if that is in a second 60, or if one cannot count
-- on so far from the first
abbrev pub is_back : FormatView → Point → Point → ℕ → Bool
is_back f x y over =
    nat_le 60000000 y.frame.micros || nat_le (counts_to x.frame) (since_hour f x + over)

-- the time some microseconds after the first pulse, and so long before the second one
abbrev pub time_at : FormatView → Point → Point → ℕ → ℕ → Time
time_at f x y over rest =
    if is_back f x y over then in_hour y.frame (since_hour f y - rest)
    else in_hour x.frame (since_hour f x + over)

-- how much of the microseconds of n elements is over, if `part` of the `whole` between two rises is
abbrev pub over_in : FormatView → ℕ → ℕ → ℕ → ℕ
over_in f n part whole = share (n * interval_of f.kind) part whole

-- the time between two pulses that are n elements apart, if `part` of the `whole` is over
abbrev pub time_on : FormatView → Point → Point → ℕ → ℕ → ℕ → Time
time_on f x y n part whole =
    time_at f x y (over_in f n part whole) (n * interval_of f.kind - over_in f n part whole)
