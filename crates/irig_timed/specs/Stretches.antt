-- The two believed frames next to each other around a pulse. This project's own.
use Rattle.std.specs.Prelude.{◌≡◌, ℕ, zero, suc, ◌<◌, ◌≤◌, ◌^◌, nat_lt, List, [], ◌∷◌, length}
use Rattle.std.specs.Prelude.{Option, Some, None, slice_get, if◌then◌else◌}
use Rattle.irig_recording.specs.declared.pulse.Pulse.{Pulse}
use Rattle.irig_law.specs.{Points.AreFrames, declared.frame.Frame.Frame}

-- the last of some frames that begins with a pulse or before it
abbrev pub last_from : Frame → List Frame → ℕ → Frame
last_from a [] k = a
last_from a (b ∷ frames) k = if nat_lt k b.marker then a else last_from b frames k

abbrev pub last_by : List Frame → ℕ → Option Frame
last_by [] k = None
last_by (a ∷ frames) k = if nat_lt k a.marker then None else Some (last_from a frames k)

-- the first that begins after it
abbrev pub next_by : List Frame → ℕ → Option Frame
next_by [] k = None
next_by (a ∷ frames) k = if nat_lt k a.marker then Some a else next_by frames k

-- a pulse is from the marker of the first one on, and before that of the second one
abbrev pub both : Option Frame → Option Frame → Option (Frame × Frame)
both (Some a) (Some b) = Some (a, b)
both a b = None

abbrev pub stretch_at : List Frame → ℕ → Option (Frame × Frame)
stretch_at frames k = both (last_by frames k) (next_by frames k)

-- these are the believed frames of some track
pub record AreFramesOf (frames : List Frame) : Type 0 where
  pub pulses : List Pulse
  pub few : length pulses ≤ 2 ^ 26
  pub are : AreFrames pulses frames

-- that many of them begin with a pulse or before it
pub record FramesUpTo (frames : List Frame) (k many : ℕ) : Type 0 where
  pub before : (i : ℕ) (a : Frame) → slice_get frames i ≡ Some a → i < many → a.marker ≤ k
  pub after : (i : ℕ) (a : Frame) → slice_get frames i ≡ Some a → many ≤ i → k < a.marker

-- the frame before a place in a list, and the one there
abbrev pub frame_before : List Frame → ℕ → Option Frame
frame_before frames zero = None
frame_before frames (suc c) = slice_get frames c
