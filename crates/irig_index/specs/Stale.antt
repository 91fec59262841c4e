-- Which verdict an edit may make stale: that of the last marker before it, and no other, since the
-- check of a frame ends at the next marker at the latest. This project's own.
use Rattle.std.specs.Prelude.{◌≡◌, ℕ, ◌≤◌, Bool, false, List, [], ◌∷◌, ◌++◌, take, drop, slice_get}
use Rattle.std.specs.Prelude.{Some}
use Rattle.irig_codes.specs.{declared.width.Element.TheVariants.Position, Format.FormatView}
use Rattle.irig_recording.specs.declared.pulse.Pulse.{Pulse}
use Rattle.irig_index.specs.{declared.record.Record.Record, Frames.frame_at, Marker.class_at}
use Rattle.irig_index.specs.{Sides.EndsUpTo, Sides.BeginsAfter, Verdict.verdict_of}

-- the record is of a pulse of the track that a frame may begin with, and has the verdict on that
-- frame unless its marker is after `settled`
pub record MayBeStale (f : FormatView) (pulses : List Pulse) (settled : ℕ) (r : Record)
    : Type 0 where
  pub first : Pulse
  pub stands : slice_get pulses r.marker ≡ Some first
  pub position : class_at f first ≡ Some Position
  pub told : r.marker ≤ settled → r.verdict ≡ verdict_of f (frame_at pulses r.marker)

-- the last record, if there is one, is such a record
abbrev pub LastMayBeStale : FormatView → List Pulse → ℕ → List Record → Type 0
LastMayBeStale f pulses settled [] = Unit {0}
LastMayBeStale f pulses settled (r ∷ []) = MayBeStale f pulses settled r
LastMayBeStale f pulses settled (r ∷ s ∷ rs) = LastMayBeStale f pulses settled (s ∷ rs)

-- the record of the same marker, with the verdict on its frame in these pulses
abbrev pub retold : FormatView → List Pulse → Record → Record
retold f pulses r =
    record { marker = r.marker; verdict = verdict_of f (frame_at pulses r.marker) }

-- the records, the last one read again
abbrev pub last_retold : FormatView → List Pulse → List Record → List Record
last_retold f pulses [] = []
last_retold f pulses (r ∷ []) = retold f pulses r ∷ []
last_retold f pulses (r ∷ s ∷ rs) = r ∷ last_retold f pulses (s ∷ rs)

-- the last of the records of markers up to `from` was read again; `more` is false only if the next
-- record is of a marker after `last`
pub record Retold (f : FormatView) (pulses : List Pulse) (from last : ℕ) (old new : List Record)
    (more : Bool) : Type 0 where
  pub count : ℕ
  pub before : EndsUpTo from (take count old)
  pub after : BeginsAfter from (drop count old)
  pub told : new ≡ last_retold f pulses (take count old) ++ drop count old
  pub none : more ≡ false → BeginsAfter last (drop count old)
