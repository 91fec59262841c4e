-- Which time is one frame period after another, by the calendar: the proleptic Gregorian one of
-- jiff. A minute has 60 seconds or 61. This project's own.
use Rattle.std.specs.Prelude.{ℕ, ◌+◌, ◌*◌, ◌%◌, ◌==◌, ◌&&◌, ◌||◌, nat_lt, Bool, true, false, pos}
use Rattle.std.specs.Prelude.{Option, Some, None, if◌then◌else◌}
use Rattle.jiff_core.specs.Calendar.{days_in_year}
use Rattle.irig_times.specs.declared.time.Time.{Time}

-- whether two years are the same, or both are unknown
abbrev pub same_year : Option ℕ → Option ℕ → Bool
same_year None None = true
same_year (Some y) (Some z) = y == z
same_year y z = false

-- the year after a year of two digits
abbrev pub next_year : Option ℕ → Option ℕ
next_year None = None
next_year (Some y) = Some ((y % 100 + 1) % 100)

-- whether the second time is on the same day, or in the same hour, or in the same minute
abbrev pub same_day : Time → Time → Bool
same_day a b = same_year a.year b.year && (a.days == b.days)

abbrev pub same_hour : Time → Time → Bool
same_hour a b = same_day a b && (a.hours == b.hours)

abbrev pub same_minute : Time → Time → Bool
same_minute a b = same_hour a b && (a.minutes == b.minutes)

-- whether two times are the same
abbrev pub same_time : Time → Time → Bool
same_time a b = same_minute a b && (a.micros == b.micros)

-- whether the second time is on the day after that of the first, if its year has n days
abbrev pub is_day_after : ℕ → Time → Time → Bool
is_day_after n a b =
    if nat_lt a.days n then same_year a.year b.year && (b.days == a.days + 1)
    else (a.days == n) && (same_year (next_year a.year) b.year && (b.days == 1))

-- the same, by the year of a century; 365 or 366 days, if it is unknown
abbrev pub day_follows : ℕ → Option ℕ → Time → Time → Bool
day_follows century None a b = is_day_after 365 a b || is_day_after 366 a b
day_follows century (Some y) a b = is_day_after (days_in_year (pos (100 * century + y % 100))) a b

-- whether the second time is in the hour after that of the first
abbrev pub hour_follows : ℕ → Time → Time → Bool
hour_follows century a b =
    if nat_lt a.hours 23 then same_day a b && (b.hours == a.hours + 1)
    else (b.hours == 0) && day_follows century a.year a b

-- whether the second time is in the minute after that of the first
abbrev pub minute_follows : ℕ → Time → Time → Bool
minute_follows century a b =
    if nat_lt a.minutes 59 then same_hour a b && (b.minutes == a.minutes + 1)
    else (b.minutes == 0) && hour_follows century a b

-- whether the second time is this many microseconds later, if the first is in a minute of n
abbrev pub is_later_in : ℕ → ℕ → ℕ → Time → Time → Bool
is_later_in n century period a b =
    nat_lt a.micros n
    && (if nat_lt (a.micros + period) n then same_minute a b && (b.micros == a.micros + period)
    else minute_follows century a b && (b.micros + n == a.micros + period))

-- whether the second time is this many microseconds later, in a minute of 60 seconds or of 61
abbrev pub is_later : ℕ → ℕ → Time → Time → Bool
is_later century period a b =
    is_later_in 60000000 century period a b || is_later_in 61000000 century period a b
