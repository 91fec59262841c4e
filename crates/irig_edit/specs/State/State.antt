-- The state of a session: a track, a format and marks. This project's own.
use Rattle.std.specs.Prelude.{◌≡◌, ◌≤◌, ℕ, IsTrue, List, Option, Some, None, length}
use Rattle.std.specs.List.{AllByRecursion}
use Rattle.irig_recording.specs.Recording.{RecordingView, recording_view}
use Rattle.irig_recording.specs.declared.pulse.Pulse.{Pulse}
use Rattle.irig_codes.specs.Format.{FormatView, is_permitted}
use Rattle.irig_track.specs.{Edges.edges_of, Track.IsTrack}
use Rattle.irig_index.specs.{declared.record.Record.Record, Frames.frames}

-- a length in microseconds; the pulses, which are the set of edges taken two by two; a format; and
-- the marks a to z, each unset or a time in microseconds
pub record State : Type 0 where
  pub micros : ℕ
  pub pulses : List Pulse
  pub format : FormatView
  pub marks : List (Option ℕ)

-- a length with pulses, a format and marks
abbrev pub state : ℕ → List Pulse → FormatView → List (Option ℕ) → State
state micros pulses format marks =
    record { micros = micros; pulses = pulses; format = format; marks = marks }

-- the state with other pulses
abbrev pub with_pulses : List Pulse → State → State
with_pulses pulses s =
    record { micros = s.micros; pulses = pulses; format = s.format; marks = s.marks }

-- a mark is unset, or a time within the length
abbrev pub IsMark : ℕ → Option ℕ → Type 0
IsMark micros None = Unit {0}
IsMark micros (Some t) = t ≤ micros

-- a track within the limits, a format that is permitted, and a mark for each of the 26 letters
pub record IsState (s : State) : Type 0 where
  pub track : IsTrack s.micros s.pulses
  pub permitted : IsTrue (is_permitted s.format.kind s.format.expression)
  pub letters : length s.marks ≡ 26
  pub marks : AllByRecursion (IsMark s.micros) s.marks

-- the recording of a state, whose file text is that of the state
abbrev pub recording_of : State → RecordingView
recording_of s = recording_view s.micros (edges_of s.pulses)

-- the frames of a state
abbrev pub frames_of : State → List Record
frames_of s = frames s.format s.pulses
