-- How far the check of a frame looks. It ends at the next marker at the latest, since two pulses
-- next to each other are not both position identifiers within a frame. This project's own.
use Rattle.std.specs.Prelude.{◌≡◌, ℕ, ◌+◌, ◌-◌, ◌≤◌, ◌<◌, List, []}
use Rattle.irig_codes.specs.Format.{FormatView}
use Rattle.irig_recording.specs.declared.pulse.Pulse.{Pulse}
use Rattle.irig_track.specs.Looks.{LensView}
use Rattle.irig_index.specs.declared.record.Cause.TheVariants.{Ended, Step, Class}
use Rattle.irig_index.specs.declared.record.Verdict.TheVariants.{Broken, Read}
use Rattle.irig_index.specs.{declared.record.Verdict.Verdict, Frames.record_after, Looked.Looked}

-- the frame of a marker was looked at up to the pulse `reach`, each pulse once, and no marker is
-- between the two
pub record Checked (f : FormatView) (pulses : List Pulse) (marker : ℕ)
    (old new : LensView) (before after : ℕ) : Type 0 where
  pub reach : ℕ
  pub from : marker ≤ reach
  pub to : reach ≤ marker + 99
  pub looked : Looked old new before after (reach - marker)
  pub alone : (k : ℕ) → marker ≤ k → k + 1 < reach → record_after f pulses k ≡ []

-- how many pulses after the marker are looked at for a verdict
abbrev pub looks_of : Verdict → ℕ
looks_of (Broken k Ended) = k - 1
looks_of (Broken k Step) = k
looks_of (Broken k Class) = k
looks_of (Read fields note) = 99
