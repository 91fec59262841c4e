-- A track: a length in microseconds, pulses in order, and a spare. This project's own.
use Rattle.std.specs.Prelude.{ℕ, ◌≤◌, ◌^◌, List, length}
use Rattle.irig_recording.specs.{Recording.RisesFrom, Recording.UpTo, declared.pulse.Pulse.Pulse}
use Rattle.irig_track.specs.Edges.{edges_of}

-- what a contract sees: the length, the pulses from 0, and how many more fit without a growth
pub record TrackView : Type 0 where
  pub micros : ℕ
  pub pulses : List Pulse
  pub spare : ℕ

-- the three parts put together
abbrev pub track_view : ℕ → List Pulse → ℕ → TrackView
track_view n ps s = record { micros = n; pulses = ps; spare = s }

-- a length and pulses within the limits, `most` pulses at most, whose edges rise strictly and lie
-- within the length
pub record IsTrackUpTo (most micros : ℕ) (pulses : List Pulse) : Type 0 where
  pub short : micros ≤ 2 ^ 40
  pub few : length pulses ≤ most
  pub rises : RisesFrom 0 (edges_of pulses)
  pub within : UpTo micros (edges_of pulses)

-- the same with at most 2^22 pulses, which can be edited
abbrev pub IsTrack : ℕ → List Pulse → Type 0
IsTrack micros pulses = IsTrackUpTo (2 ^ 22) micros pulses

-- the same with at most 2^26 pulses, which are only read
abbrev pub IsLongTrack : ℕ → List Pulse → Type 0
IsLongTrack micros pulses = IsTrackUpTo (2 ^ 26) micros pulses
