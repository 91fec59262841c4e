-- The frames of a recording, as lines show them. This project's own.
use Rattle.std.specs.Prelude.{◌≡◌, ◌≤◌, ◌+◌, ℕ, suc, List, [], ◌∷◌, option_map, slice_get}
use Rattle.std.specs.Prelude.{unwrap_or}
use Rattle.irig_codes.specs.Format.{FormatView}
use Rattle.irig_recording.specs.{Recording.RecordingView, declared.pulse.Pulse.Pulse}
use Rattle.irig_track.specs.{Edges.edges_of, Track.IsTrack}
use Rattle.irig_index.specs.{Frames.frames, declared.record.Record.Record}
use Rattle.irig_difference.specs.Stretches.{pairs}
use Rattle.irig_comments.specs.declared.shown.Shown.{Shown}

-- what a contract sees: a recording, its pulses, a format, and the records of its frames in it
pub record FramedView : Type 0 where
  pub recording : RecordingView
  pub pulses : List Pulse
  pub format : FormatView
  pub records : List Record

-- the four parts put together
abbrev pub framed_view : RecordingView → List Pulse → FormatView → List Record → FramedView
framed_view r ps f rs = record { recording = r; pulses = ps; format = f; records = rs }

-- a recording with its pulses and its frames in a format
abbrev pub framed : FormatView → RecordingView → FramedView
framed f r = framed_view r (pairs r.edges) f (frames f (pairs r.edges))

-- the pulses are those of the recording, and the records are their frames
pub record IsFramed (x : FramedView) : Type 0 where
  pub track : IsTrack x.recording.micros x.pulses
  pub edges : x.recording.edges ≡ edges_of x.pulses
  pub are : x.records ≡ frames x.format x.pulses

-- when the pulse with a number, from 0, rises
abbrev pub rise_of : ℕ → List Pulse → ℕ
rise_of marker ps = unwrap_or (option_map (λ p. p.rise) (slice_get ps marker)) 0

-- a record with its number, from 1, and the rise of its marker
abbrev pub shown_as : ℕ → List Pulse → Record → Shown
shown_as number ps r =
    record { number = number; rise = rise_of r.marker ps; verdict = r.verdict }

-- some records of pulses, the first of them with this number
abbrev pub shown_from : ℕ → List Pulse → List Record → List Shown
shown_from number ps [] = []
shown_from number ps (r ∷ rs) = shown_as number ps r ∷ shown_from (suc number) ps rs

-- the frames of a recording, numbered from 1
abbrev pub shown_frames : FramedView → List Shown
shown_frames x = shown_from 1 x.pulses x.records

-- the frames begin at places that rise, from one on
abbrev pub FramesRise : ℕ → List Shown → Type 0
FramesRise low [] = Unit {0}
FramesRise low (s ∷ ss) = (low ≤ s.rise) × FramesRise (s.rise + 1) ss
