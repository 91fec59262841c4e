-- The time of a frame, after IRIG Standard 200-04. A time is a minute of a year and the
-- microseconds since that minute began, so that a second 60 has a time of its own. This project's
-- own.
use Rattle.std.specs.Prelude.{ℕ, ◌+◌, ◌*◌, ◌/◌, ◌%◌, ◌^◌, nat_le, Option, Some, None, if◌then◌else◌}
use Rattle.std.specs.Prelude.{unwrap_or, ◌≤◌, IfSome}
use Rattle.irig_codes.specs.{Fields.part, Format.FormatView, Format.carries_sbs}
use Rattle.irig_codes.specs.Format.{frame_period_of, has_control, has_hundredths}
use Rattle.irig_codes.specs.{declared.fields.Fields.Fields, declared.note.Note.TheVariants.Fine}
use Rattle.irig_index.specs.declared.record.Verdict.{Verdict}
use Rattle.irig_index.specs.declared.record.Verdict.TheVariants.{Read}
use Rattle.irig_times.specs.declared.time.Time.{Time}

-- the microseconds from the start of its minute to a frame
abbrev pub minute_micros : Fields → ℕ
minute_micros g = 10000 * (100 * g.seconds + unwrap_or g.hundredths 0)

-- the time n microseconds after a frame begins, in its minute
abbrev pub time_in : Fields → ℕ → Time
time_in g n = record {
  year = g.year;
  days = g.days;
  hours = g.hours;
  minutes = g.minutes;
  micros = minute_micros g + n;
}

-- the time some microseconds after another, in its minute
abbrev pub plus : Time → ℕ → Time
plus t n = record t { micros = t.micros + n }

-- the second of the day, in 17 bits; a second 60 has what its own frame shows, as none is counted
-- into it
abbrev pub second_of_day : Time → ℕ
second_of_day t = (3600 * t.hours + 60 * t.minutes + t.micros / 1000000) % 2 ^ 17

-- the fields of a frame of a time; the control functions, which are no part of it, are 0
abbrev pub fields_at : FormatView → Time → Fields
fields_at f t = record {
  hundredths = part (has_hundredths f.kind) (t.micros / 10000 % 100);
  seconds = t.micros / 1000000;
  minutes = t.minutes;
  hours = t.hours;
  days = t.days;
  year = t.year;
  sbs = part (carries_sbs f.kind f.expression) (second_of_day t);
  control = part (has_control f.expression) 0;
}

-- the fields of a fine frame that ends with its minute at the latest, a minute of 61 seconds
abbrev pub timed : FormatView → Verdict → Option Fields
timed f (Read g Fine) =
    if nat_le (minute_micros g + frame_period_of f.kind) 61000000 then Some g else None
timed f other = None

-- a time is a minute of an hour of a day of a year; the year, if it is known, has two digits
pub record IsOfCalendar (x : Time) : Type 0 where
  pub year : IfSome x.year (λ y. y ≤ 99)
  pub first : 1 ≤ x.days
  pub days : x.days ≤ 366
  pub hours : x.hours ≤ 23
  pub minutes : x.minutes ≤ 59
