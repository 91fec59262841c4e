-- The fields of the frames that are generated from a moment on: this project's own, for the frames
-- of IRIG Standard 200-04. No second is inserted or left out.
use Rattle.std.specs.Prelude.{ℕ, ◌+◌, ◌*◌, ◌/◌, ◌%◌, ◌==◌, Bool}
use Rattle.irig_codes.specs.Format.{FormatView, frame_period_of, has_hundredths, has_control}
use Rattle.irig_codes.specs.Format.{has_year, carries_sbs}
use Rattle.irig_codes.specs.{Fields.part, declared.fields.Fields.Fields}
use Rattle.irig_moment.specs.{Calendar.year_of, Calendar.place_of, Moment.MomentView}

-- the frame period in hundredths of a second
abbrev pub period_of : FormatView → ℕ
period_of f = frame_period_of f.kind / 10000

-- whether the moment is a whole number of frame periods after the start of its minute
abbrev pub starts_in : FormatView → MomentView → Bool
starts_in f m = m.hundredths % 6000 % period_of f == 0

-- the hundredths of a second from the midnight of the moment's day to frame k, from 0
abbrev pub elapsed : FormatView → MomentView → ℕ → ℕ
elapsed f m k = m.hundredths + k * period_of f

-- the fields of a day and the hundredths of a second since its midnight
abbrev pub fields_at : FormatView → ℕ → ℕ → ℕ → Fields
fields_at f day time control = record {
  hundredths = part (has_hundredths f.kind) (time % 100);
  seconds = time / 100 % 60;
  minutes = time / 6000 % 60;
  hours = time / 360000;
  days = place_of day;
  year = part (has_year f.expression) (year_of day % 100);
  sbs = part (carries_sbs f.kind f.expression) (time / 100);
  control = part (has_control f.expression) control;
}

-- the fields of frame k from a moment on
abbrev pub frame_fields : FormatView → MomentView → ℕ → ℕ → Fields
frame_fields f m k control =
    let time = elapsed f m k in
    fields_at f (m.day + time / 8640000) (time % 8640000) control
