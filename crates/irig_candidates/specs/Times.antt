-- The times of frames, counted in frames from the begin of a year that no field names, so it has
-- 366 days. After IRIG Standard 200-04; how a second 60 is counted is this project's own.
use Rattle.std.specs.Prelude.{ℕ, ◌+◌, ◌*◌, ◌/◌, ◌%◌, ◌||◌, nat_le, nat_lt}
use Rattle.std.specs.Prelude.{Bool, if◌then◌else◌}
use Rattle.irig_codes.specs.declared.format.Kind.{Kind}
use Rattle.irig_codes.specs.declared.fields.Fields.{Fields}
use Rattle.irig_codes.specs.Format.{FormatView, carries_sbs, frame_period_of, has_control}
use Rattle.irig_codes.specs.Format.{has_hundredths, has_year}
use Rattle.irig_codes.specs.Fields.{part}

-- the time of a frame, in hundredths of a second
abbrev pub period_of : Kind → ℕ
period_of k = frame_period_of k / 10000

-- how many frames a second has (none in E), a minute, a day, and a year
abbrev pub second_of : Kind → ℕ
second_of k = 100 / period_of k

abbrev pub minute_of : Kind → ℕ
minute_of k = 6000 / period_of k

abbrev pub day_of : Kind → ℕ
day_of k = 8640000 / period_of k

abbrev pub year_of : Kind → ℕ
year_of k = 366 * day_of k

-- how much later a second 60 is counted than the second before it: no time of a year comes so far,
-- with the frames of a recording after it
abbrev pub inserted_of : Kind → ℕ
inserted_of k = 2 * year_of k

-- whether a time lies in a second 60
abbrev pub is_inserted : Kind → ℕ → Bool
is_inserted k t = nat_le (inserted_of k) t

-- the fields of a frame by the hundredths of a second since the begin of the year, and the seconds
-- inserted. Year and control functions are no part of a time: 0
abbrev pub fields_since : FormatView → ℕ → ℕ → Fields
fields_since f since inserted =
    let time = since % 8640000 in
    record {
      hundredths = part (has_hundredths f.kind) (time % 100);
      seconds = time / 100 % 60 + inserted;
      minutes = time / 6000 % 60;
      hours = time / 360000;
      days = since / 8640000 + 1;
      year = part (has_year f.expression) 0;
      sbs = part (carries_sbs f.kind f.expression) (time / 100 + inserted);
      control = part (has_control f.expression) 0;
    }

-- the hundredths of a second from the begin of the year to a time
abbrev pub since : Kind → ℕ → ℕ
since k t = t % year_of k * period_of k

-- the fields of the frame of a time
abbrev pub fields_at : FormatView → ℕ → Fields
fields_at f t = fields_since f (since f.kind t) (if is_inserted f.kind t then 1 else 0)

-- whether a frame can have a time: a second 60 follows only the last second of a minute
abbrev pub is_time : Kind → ℕ → Bool
is_time k t = nat_lt t (inserted_of k) || nat_le (minute_of k) (t % minute_of k + second_of k)

-- the time of a frame of a stretch, by that of frame 0, its base
abbrev pub time_of : Kind → ℕ → ℕ → ℕ
time_of k base frame =
    (base + frame) % year_of k + (if is_inserted k base then inserted_of k else 0)
