-- What it means that a state is safe by another, frame by frame. This project's own.
use Rattle.std.specs.Prelude.{◌≡◌, ◌≢◌, List, [], map}
use Rattle.std.specs.List.{AllByRecursion}
use Rattle.irig_codes.specs.Format.{FormatView}
use Rattle.irig_track.specs.Track.{IsTrack}
use Rattle.irig_edit.specs.State.State.{State}
use Rattle.irig_safety.specs.Meaning.{IsKept, IsTold}
use Rattle.irig_safety.specs.{Moved.located, Original.others_of, Terms.OthersView, Terms.TermsView}
use Rattle.irig_safety.specs.declared.shown.Shown.{Shown}
use Rattle.irig_guarding.specs.{Guarded.IsSafeAfter, Reading.fine_frames, Reading.original_of}

-- frames at other places, or at theirs, have the same fields in the same order; each of them is one
-- of the new ones, or was wrong and is mended; and each other new one is borne out by those
pub record IsKeptAt (f : FormatView) (others : OthersView) (old at new : List Shown) : Type 0 where
  pub fields : map (λ x. x.fields) at ≡ map (λ x. x.fields) old
  pub kept : AllByRecursion (IsKept f others at new) at
  pub told : AllByRecursion (IsTold f others at) new

-- a state that is safe by another in which some frame reads well, also by other recordings: the
-- frames of the other that read well, where they were or if they may move where they are now, are
-- kept in it
abbrev pub SafeStatesMean : Type 0
SafeStatesMean = (terms : TermsView) (old new : State) → IsTrack new.micros new.pulses
    → fine_frames old ≢ [] → IsSafeAfter terms old new
    → IsKeptAt old.format (others_of (original_of terms old)) (fine_frames old)
    (located terms.moved (fine_frames old) (fine_frames new)) (fine_frames new)
