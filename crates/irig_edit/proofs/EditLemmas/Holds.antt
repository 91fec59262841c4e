-- The steps of an edit hold the pulses that it inserts and those that it removes.
use Rattle.std.proofs.Common.{◌≡◌, ℕ, zero, suc, List, refl}
use Rattle.irig_recording.specs.declared.pulse.Pulse.{Pulse}
use Rattle.irig_saved.specs.declared.single.Single.TheVariants.{Splice}
use Rattle.irig_track.proofs.Carried.{length-piece}
use Rattle.irig_edit.specs.Changes.Single.{FitsSingle, held_in, turned_single}
use Rattle.irig_edit.specs.Session.Calls.Edit.{Insert, Delete, Split, Join, Shift, Invert, Force, Regen, SetFormat, SetMark}
use Rattle.irig_edit.specs.{Edits.Holds.EditsHold, Edits.Regenerated.frame_elements, State.State.State}
use Rattle.irig_edit.proofs.EditLemmas.GeneratedPulses.{frames_many}

back_holds : (s : State) (i count : ℕ) (put : List Pulse) → FitsSingle s (Splice i count put) → held_in (turned_single s (Splice i count put)).1 ≡ count
back_holds s zero count put fits = absurd fits
back_holds s (suc at) count put fits = length-piece s.pulses at count fits.there

pub edits_hold : EditsHold
edits_hold (Insert a b) old new step = (refl, back_holds old.state _ _ _ step.1.fits)
edits_hold (Delete i j) old new step = (refl, back_holds old.state _ _ _ step.1.fits)
edits_hold (Split i a b) old new step = (refl, back_holds old.state _ _ _ step.1.fits)
edits_hold (Join i j) old new step = (refl, back_holds old.state _ _ _ step.1.fits)
edits_hold (Shift zero j d) old new step = (refl, refl)
edits_hold (Shift (suc i) zero d) old new step = (refl, refl)
edits_hold (Shift (suc i) (suc j) d) old new step = (refl, refl)
edits_hold (Invert a b) old new step = (refl, refl)
edits_hold (Force i e) old new step = (refl, back_holds old.state _ _ _ step.1.fits)
edits_hold (Regen start frames moment control) old new step =
    (frames_many old.state.format start (frame_elements old.state.format moment control) 0 frames, back_holds old.state _ _ _ step.1.fits)
edits_hold (SetFormat f) old new step = (refl, refl)
edits_hold (SetMark letter time) old new step = (refl, refl)
