-- How large the numbers are that a frame carries, by the elements that carry them. This project's
-- own.
use Rattle.std.specs.Prelude.{◌≤◌, ◌<◌, ◌^◌, unwrap_or}
use Rattle.irig_codes.specs.declared.fields.Fields.{Fields}

-- the fields have no larger numbers than the elements of a frame can carry
pub record AreNarrow (g : Fields) : Type 0 where
  pub hundredths : unwrap_or g.hundredths 0 ≤ 165
  pub seconds : g.seconds ≤ 85
  pub minutes : g.minutes ≤ 85
  pub hours : g.hours ≤ 45
  pub days : g.days ≤ 465
  pub year : unwrap_or g.year 0 ≤ 165
  pub sbs : unwrap_or g.sbs 0 < 2 ^ 17
  pub control : unwrap_or g.control 0 < 2 ^ 45
