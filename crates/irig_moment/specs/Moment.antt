-- What contracts see of a moment: this project's own.
use Rattle.std.specs.Prelude.{ℕ, ◌<◌}
use Rattle.irig_moment.specs.Calendar.{IsDay}

-- a day, by jiff's number of it, and the hundredths of a second since its midnight
pub record MomentView : Type 0 where
  pub day : ℕ
  pub hundredths : ℕ

-- the day is one of the years 1 to 9998, and the time is one of the day
pub record IsMoment (day hundredths : ℕ) : Type 0 where
  pub in_years : IsDay day
  pub in_day : hundredths < 8640000
