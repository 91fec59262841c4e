-- How long one time is after another, by the calendar: over midnight, over the end of a year, and
-- out of a second 60. This project's own.
use Rattle.std.specs.Prelude.{ℕ, ◌+◌, ◌-◌, ◌*◌, ◌%◌, ◌==◌, ◌&&◌, nat_le, nat_lt, pos, Option, Some}
use Rattle.std.specs.Prelude.{None, if◌then◌else◌}
use Rattle.jiff_core.specs.Calendar.{days_in_year}
use Rattle.irig_times.specs.{Follows.next_year, Follows.same_year, declared.time.Time.Time}

-- the number of the minute of a time in its year
abbrev pub minute_of_year : Time → ℕ
minute_of_year t = 60 * (24 * t.days + t.hours) + t.minutes

-- how many days the year of a time has; if the year is not known, day 366 is in one of 366 days
abbrev pub days_by : ℕ → ℕ → Option ℕ → ℕ
days_by century days None = if days == 366 then 366 else 365
days_by century days (Some y) = days_in_year (pos (100 * century + y % 100))

abbrev pub year_days : ℕ → Time → ℕ
year_days century t = days_by century t.days t.year

-- how many minutes of the calendar the minute of the second time is after that of the first: in the
-- same year, or in the next one
abbrev pub minutes_between : ℕ → Time → Time → Option ℕ
minutes_between century a b =
    if same_year a.year b.year && nat_le (minute_of_year a) (minute_of_year b)
    then Some (minute_of_year b - minute_of_year a)
    else (if same_year (next_year a.year) b.year
    && nat_le (minute_of_year a) (minute_of_year b + 1440 * year_days century a)
    then Some (minute_of_year b + 1440 * year_days century a - minute_of_year a) else None)

-- the microseconds of a second 60 that is between them: the first time is in it
abbrev pub inserted : ℕ → Time → Time → ℕ
inserted minutes a b =
    if nat_lt 0 minutes && (nat_le 60000000 a.micros && nat_lt b.micros 60000000)
    then 1000000 else 0

abbrev pub micros_in : Time → Time → Option ℕ → ℕ
micros_in a b None = 0
micros_in a b (Some m) = 60000000 * m + (b.micros + inserted m a b) - a.micros

-- how many microseconds the second time is after the first; 0 if it is not after it
abbrev pub micros_after : ℕ → Time → Time → ℕ
micros_after century a b = micros_in a b (minutes_between century a b)
