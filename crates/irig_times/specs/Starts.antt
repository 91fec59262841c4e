-- Where frames start, for a table of them, and their index points. This project's own.
use Rattle.std.specs.Prelude.{◌≡◌, ◌↔◌, ℕ, ◌+◌, true, List, slice_get, Option, Some, None, ◌*◌, ◌/◌}
use Rattle.std.specs.Prelude.{◌≤◌}
use Rattle.irig_codes.specs.Format.{FormatView, frame_period_of}
use Rattle.irig_codes.specs.declared.fields.Fields.{Fields}
use Rattle.irig_recording.specs.declared.pulse.Pulse.{Pulse}
use Rattle.irig_index.specs.{Frames.frames, declared.record.Record.Record}
use Rattle.irig_times.specs.{declared.start.FrameStart.FrameStart, Times.time_in, Times.timed}
use Rattle.irig_times.specs.Follows.{is_later}

-- some records are the frames of a track
pub record AreFrames (f : FormatView) (rs : List Record) : Type 0 where
  pub pulses : List Pulse
  pub are : rs ≡ frames f pulses

-- the pulse with this number is an element, from 0, of a frame that has these fields and a time
pub record IsElement (f : FormatView) (rs : List Record) (number element : ℕ) (g : Fields)
    : Type 0 where
  pub at : ℕ
  pub one : Record
  pub there : slice_get rs at ≡ Some one
  pub tells : timed f one.verdict ≡ Some g
  pub place : one.marker + element ≡ number
  pub few : element ≤ 99

-- the frame with these fields, whose last pulse has this number, is followed by another: it begins
-- with the next pulse, and its time is one frame period later
pub record IsFollowed (f : FormatView) (century : ℕ) (rs : List Record) (number : ℕ) (g : Fields)
    : Type 0 where
  pub next : Fields
  pub begins : IsElement f rs (number + 1) 0 next
  pub later : is_later century (frame_period_of f.kind) (time_in g 0) (time_in next 0) ≡ true

-- how much of an interval is over, in whole microseconds, if `part` of the `whole` between two
-- rises is; both in the same unit
abbrev pub share : ℕ → ℕ → ℕ → ℕ
share interval part whole = part * interval / whole

-- a frame that has a time starts so: when its marker rises, its time, and whether the frame after
-- it follows it
pub record IsStart (f : FormatView) (century : ℕ) (ps : List Pulse) (r : Record) (s : FrameStart)
    : Type 0 where
  pub fields : Fields
  pub point : Pulse
  pub tells : timed f r.verdict ≡ Some fields
  pub stands : slice_get ps r.marker ≡ Some point
  pub rise : s.rise ≡ point.rise
  pub time : s.time ≡ time_in fields 0
  pub follows : (s.is_followed ≡ true) ↔ IsFollowed f century (frames f ps) (r.marker + 99) fields

-- how the frame of a record starts, if it has a time
abbrev pub IsStartOf : FormatView → ℕ → List Pulse → Record → Option FrameStart → Type 0
IsStartOf f century ps r None = timed f r.verdict ≡ None
IsStartOf f century ps r (Some s) = IsStart f century ps r s
