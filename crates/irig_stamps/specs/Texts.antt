-- Times as texts. Their forms are after ISO 8601; this project's own.
use Rattle.std.specs.Prelude.{ℕ, ◌+◌, ◌*◌, ◌/◌, ◌%◌, ◌++◌, List, [], ◌∷◌, Option, Some, None}
use Rattle.std.specs.Prelude.{decimal}
use Rattle.irig_times.specs.declared.time.Time.{Time}
use Rattle.irig_stamps.specs.declared.settings.Form.TheVariants.{Ordinal, Calendar, Seconds}
use Rattle.irig_stamps.specs.declared.settings.Settings.{Settings}
use Rattle.irig_stamps.specs.{declared.settings.Form.Form, Dates.date_in, Dates.year_in}

-- the decimal digit of a number that counts units
abbrev pub digit_at : ℕ → ℕ → ℕ
digit_at unit n = 48 + n / unit % 10

-- a day of the year, as DDD
abbrev pub day_text : ℕ → List ℕ
day_text days = digit_at 100 days ∷ digit_at 10 days ∷ digit_at 1 days ∷ []

-- a month and a day of it, as MM-DD
abbrev pub date_text : ℕ → ℕ → List ℕ
date_text month day =
    digit_at 10 month ∷ digit_at 1 month ∷ 45 ∷ digit_at 10 day ∷ digit_at 1 day ∷ []

-- the time of a day, as Thh:mm:ss.ffffff
abbrev pub clock_text : Time → List ℕ
clock_text x =
    84 ∷ digit_at 10 x.hours ∷ digit_at 1 x.hours
    ∷ 58 ∷ digit_at 10 x.minutes ∷ digit_at 1 x.minutes
    ∷ 58 ∷ digit_at 10000000 x.micros ∷ digit_at 1000000 x.micros
    ∷ 46 ∷ digit_at 100000 x.micros ∷ digit_at 10000 x.micros ∷ digit_at 1000 x.micros
    ∷ digit_at 100 x.micros ∷ digit_at 10 x.micros ∷ digit_at 1 x.micros ∷ []

-- a year and its hyphen, as YYYY-, if it is known
abbrev pub year_text : Option ℕ → List ℕ
year_text None = []
year_text (Some y) =
    digit_at 1000 y ∷ digit_at 100 y ∷ digit_at 10 y ∷ digit_at 1 y ∷ 45 ∷ []

-- a time with the number of its day in the year
abbrev pub ordinal_text : Option ℕ → Time → List ℕ
ordinal_text year x = year_text year ++ (day_text x.days ++ clock_text x)

-- a time with the date of its day; a hyphen if there is no date
abbrev pub calendar_text : Option ℕ → Time → List ℕ
calendar_text year x = text (date_in year x.days) where
  text : Option (ℕ × ℕ) → List ℕ
  text None = 45 ∷ []
  text (Some date) = year_text year ++ (date_text date.0 date.1 ++ clock_text x)

-- the microseconds of a second, as .ffffff
abbrev pub fraction_text : ℕ → List ℕ
fraction_text micros =
    46 ∷ digit_at 100000 micros ∷ digit_at 10000 micros ∷ digit_at 1000 micros
    ∷ digit_at 100 micros ∷ digit_at 10 micros ∷ digit_at 1 micros ∷ []

-- the whole seconds since midnight
abbrev pub day_seconds : Time → ℕ
day_seconds x = 3600 * x.hours + 60 * x.minutes + x.micros / 1000000

-- the seconds since midnight, with six decimals
abbrev pub seconds_text : Time → List ℕ
seconds_text x = decimal (day_seconds x) ++ fraction_text x.micros

-- a time in the form that is asked for
abbrev pub time_text : Form → Option ℕ → Time → List ℕ
time_text Ordinal year x = ordinal_text year x
time_text Calendar year x = calendar_text year x
time_text Seconds year x = seconds_text x

-- the word of a time: a hyphen if there is none
abbrev pub word_of : Settings → Option Time → List ℕ
word_of s None = 45 ∷ []
word_of s (Some x) = time_text s.form (year_in s x) x
