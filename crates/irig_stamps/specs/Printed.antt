-- What the digits of a printed time show of it: two moments of a track whose times are printed
-- alike. This project's own.
use Rattle.std.specs.Prelude.{◌≡◌, ◌≢◌, ℕ, ◌+◌, ◌*◌, ◌≤◌, List, [], ◌∷◌, IfSome}
use Rattle.irig_codes.specs.Format.{FormatView}
use Rattle.irig_recording.specs.declared.pulse.Pulse.{Pulse}
use Rattle.irig_times.specs.declared.time.Time.{Time}
use Rattle.irig_timed.specs.Moments.{IsTimed}
use Rattle.irig_stamps.specs.Texts.{calendar_text, ordinal_text, seconds_text}
use Rattle.irig_stamps.specs.{Dates.year_in, declared.settings.Settings.Settings}

-- two times of a track, n / d and m / d microseconds after its start, and settings within limits
pub record AreTimes (f : FormatView) (s : Settings) (x y : Time) : Type 0 where
  pub pulses : List Pulse
  pub d : ℕ
  pub n : ℕ
  pub m : ℕ
  pub first : IsTimed f s.alone s.century pulses d n x
  pub second : IsTimed f s.alone s.century pulses d m y
  pub century : s.century ≤ 99
  pub year : IfSome s.year (λ y. y ≤ 9998)

-- with the number of the day in the year they are the same time
abbrev pub OrdinalTells : Type 0
OrdinalTells = (f : FormatView) (s : Settings) (x y : Time) → AreTimes f s x y
    → ordinal_text (year_in s x) x ≡ ordinal_text (year_in s y) y → x ≡ y

-- with the date too, unless they are printed as a hyphen
abbrev pub CalendarTells : Type 0
CalendarTells = (f : FormatView) (s : Settings) (x y : Time) → AreTimes f s x y
    → calendar_text (year_in s x) x ≢ 45 ∷ []
    → calendar_text (year_in s x) x ≡ calendar_text (year_in s y) y → x ≡ y

-- the microseconds since midnight, if no minute before has a second 60
abbrev pub day_micros : Time → ℕ
day_micros x = 60000000 * (60 * x.hours + x.minutes) + x.micros

-- as seconds since midnight they have the same microsecond of the day; the day is not told, and a
-- second 60 is printed as the one after it, but for that at the end of the day
abbrev pub SecondsTell : Type 0
SecondsTell = (f : FormatView) (s : Settings) (x y : Time) → AreTimes f s x y
    → seconds_text x ≡ seconds_text y → day_micros x ≡ day_micros y
