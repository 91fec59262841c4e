-- Years and dates of times, by the proleptic Gregorian calendar of jiff. A track lasts at most 12.7
-- days, so it has at most one end of a year, at which the day goes back by 352 days or more. This
-- project's own.
use Rattle.std.specs.Prelude.{ℕ, zero, suc, Bool, true, false, slice_get, ◌+◌, ◌-◌, ◌*◌, ◌%◌, ◌==◌, nat_le, pos, List, []}
use Rattle.std.specs.Prelude.{◌∷◌, Option, Some, None, if◌then◌else◌}
use Rattle.jiff_core.specs.Calendar.{days_in_month}
use Rattle.irig_codes.specs.{Format.FormatView, declared.fields.Fields.Fields}
use Rattle.irig_index.specs.declared.record.Record.{Record}
use Rattle.irig_times.specs.{declared.time.Time.Time, Times.timed}
use Rattle.irig_stamps.specs.declared.settings.Settings.{Settings}

-- the day of some fields, if there are any; else another
abbrev pub day_or : Option Fields → Option ℕ → Option ℕ
day_or (Some g) other = Some g.days
day_or None other = other

-- the fields of a frame, if it is believed
abbrev pub if_held : Option Bool → Option Fields → Option Fields
if_held None g = None
if_held (Some false) g = None
if_held (Some true) g = g

-- of the records from a place on, the day in its year of the first frame that is believed, if one
-- is
abbrev pub first_day : FormatView → List Bool → ℕ → List Record → Option ℕ
first_day f held place [] = None
first_day f held place (r ∷ rs) =
    day_or (if_held (slice_get held place) (timed f r.verdict)) (first_day f held (suc place) rs)

-- one, if a frame has a time and is not believed
abbrev pub doubt_of : Option Bool → Option Fields → ℕ
doubt_of None g = 0
doubt_of (Some true) g = 0
doubt_of (Some false) None = 0
doubt_of (Some false) (Some g) = 1

-- of the records from a place on, how many frames have a time and are not believed
abbrev pub doubted : FormatView → List Bool → ℕ → List Record → ℕ
doubted f held place [] = 0
doubted f held place (r ∷ rs) =
    doubt_of (slice_get held place) (timed f r.verdict) + doubted f held (suc place) rs

-- the year of a day, if frames carry none: that of the first frame that is believed, or the year
-- after, if the day is 300 or more before that frame's
abbrev pub counted_on : Settings → ℕ → Option ℕ
counted_on s days = on s.year where
  on : Option ℕ → Option ℕ
  on None = None
  on (Some y) = if nat_le 300 (s.first_day - days) then Some (y + 1) else Some y

-- the year of a time: that of its two digits in the century, if frames carry them
abbrev pub year_in : Settings → Time → Option ℕ
year_in s x = of x.year where
  of : Option ℕ → Option ℕ
  of None = counted_on s x.days
  of (Some y) = Some (100 * s.century + y % 100)

-- the month and the day of it, if days are counted from 1 of the month m on, and n months are left
abbrev pub date_after : ℕ → ℕ → ℕ → ℕ → Option (ℕ × ℕ)
date_after y zero m days = None
date_after y (suc n) m days =
    if nat_le days (days_in_month (pos y) m) then Some (m, days)
    else date_after y n (m + 1) (days - days_in_month (pos y) m)

-- the month and the day of it, of a day in a year
abbrev pub date_from : ℕ → ℕ → Option (ℕ × ℕ)
date_from y days = if days == 0 then None else date_after y 12 1 days

-- the same, if the year is known and has such a day
abbrev pub date_in : Option ℕ → ℕ → Option (ℕ × ℕ)
date_in None days = None
date_in (Some y) days = date_from y days
