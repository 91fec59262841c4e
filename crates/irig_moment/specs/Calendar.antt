-- Days and years, by the day numbers of jiff, whose calendar is the proleptic Gregorian one. Which
-- years a moment may have is this project's own choice.
use Rattle.std.specs.Prelude.{ℕ, zero, suc, ◌+◌, ◌-◌, ◌<◌, ◌≤◌, ◌&&◌, nat_le, Bool, if◌then◌else◌}
use Rattle.std.specs.Prelude.{pos, Option, Some, None}
use Rattle.jiff_core.specs.Calendar.{day_count, days_in_year, days_in_month}

-- the day number of a date, as jiff counts days from 1 January of the year -9999
abbrev pub day_number : ℕ → ℕ → ℕ → ℕ
day_number y m d = day_count (pos y) m d - 366

-- that of 1 January of a year
abbrev pub new_year_of : ℕ → ℕ
new_year_of y = day_number y 1 1

-- the greatest year up to n whose 1 January is at or before the day; 0 if there is none
unfoldable pub last_year : ℕ → ℕ → ℕ
last_year zero day = zero
last_year (suc n) day = if nat_le (new_year_of (suc n)) day then suc n else last_year n day

-- the year of a day: the one with the last 1 January at or before it
unfoldable pub year_of : ℕ → ℕ
year_of day = last_year 9999 day

-- the place of a day in its year, from 1
abbrev pub place_of : ℕ → ℕ
place_of day = day - new_year_of (year_of day) + 1

-- whether a moment may lie in the year
abbrev pub is_year : ℕ → Bool
is_year y = nat_le 1 y && nat_le y 9998

-- the number of a day by its place in the year, if there is such a day
abbrev pub ordinal_day_of : ℕ → ℕ → Option ℕ
ordinal_day_of y d =
    if is_year y && (nat_le 1 d && nat_le d (days_in_year (pos y)))
    then Some (new_year_of y + (d - 1)) else None

-- the number of a day by month and day, if there is such a day
abbrev pub civil_day_of : ℕ → ℕ → ℕ → Option ℕ
civil_day_of y m d =
    if is_year y && (nat_le 1 m && nat_le m 12)
    && (nat_le 1 d && nat_le d (days_in_month (pos y) m))
    then Some (day_number y m d) else None

-- a day from the year 1 to the year 9998
pub record IsDay (day : ℕ) : Type 0 where
  pub from : new_year_of 1 ≤ day
  pub before : day < new_year_of 9999
