-- How markers are sought, place by place. This project's own.
use Rattle.std.specs.Prelude.{◌≡◌, ℕ, ◌+◌, ◌-◌, ◌*◌, ◌<◌, ◌≤◌, List, [], ◌∷◌, slice_get, Some}
use Rattle.irig_codes.specs.{declared.width.Element.TheVariants.Position, Format.FormatView}
use Rattle.irig_recording.specs.declared.pulse.Pulse.{Pulse}
use Rattle.irig_track.specs.Looks.{LensView}
use Rattle.irig_index.specs.Frames.{frame_at, record_after}
use Rattle.irig_index.specs.{Looked.Looked, Marker.class_at, Verdict.verdict_of}

-- no marker is after the places from `first` to `next`, that one not included, and it took two
-- looks a place at most to find out, and this many more
pub record Passed (f : FormatView) (pulses : List Pulse) (first next besides : ℕ)
    (old new : LensView) (before after : ℕ) : Type 0 where
  pub order : first ≤ next
  pub looked : Looked old new before after (2 * (next - first) + besides)
  pub none : (k : ℕ) → first ≤ k → k < next → record_after f pulses k ≡ []

-- the pulse after a place is a marker
pub record StandsAfter (f : FormatView) (pulses : List Pulse) (place : ℕ) (p : Pulse)
    : Type 0 where
  pub stands : slice_get pulses (place + 1) ≡ Some p
  pub position : class_at f p ≡ Some Position
  pub record_is : record_after f pulses place
      ≡ (record { marker = place + 1; verdict = verdict_of f (frame_at pulses (place + 1)) }) ∷ []
