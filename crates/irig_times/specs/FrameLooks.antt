-- The records of an index as seen through a lens, with a count of the looks at them. This project's
-- own.
use Rattle.std.specs.Prelude.{◌≡◌, ℕ, ◌<◌, ◌≤◌, List, slice_get, Some}
use Rattle.irig_track.specs.Looks.{after_looks}
use Rattle.irig_index.specs.declared.record.Record.{Record}

-- what a contract sees: the records, and how often one was looked at
pub record FramesView : Type 0 where
  pub records : List Record
  pub looks : ℕ

-- the two parts put together
abbrev pub frames_view : List Record → ℕ → FramesView
frames_view rs n = record { records = rs; looks = n }

-- at most this many looks were made, and the lens has counted them
pub record LookedAtFrames (old new : FramesView) (most : ℕ) : Type 0 where
  pub made : ℕ
  pub few : made ≤ most
  pub lens : new ≡ frames_view old.records (after_looks old.looks made)

-- this many records, from the first on, are of markers up to the pulse with a number; all others
-- are of later ones
pub record PartedAt (rs : List Record) (number count : ℕ) : Type 0 where
  pub before : (k : ℕ) (r : Record) → slice_get rs k ≡ Some r → k < count → r.marker ≤ number
  pub after : (k : ℕ) (r : Record) → slice_get rs k ≡ Some r → count ≤ k → number < r.marker

-- the markers rise
abbrev pub MarkersRise : List Record → Type 0
MarkersRise rs = (i j : ℕ) (r s : Record) → slice_get rs i ≡ Some r → slice_get rs j ≡ Some s
    → i < j → r.marker < s.marker
