-- Which pulses of a recording are doubted, and which moments are next to one. This project's own.
use Rattle.std.specs.Prelude.{◌≡◌, ◌⊎◌, ◌↔◌, ℕ, ◌+◌, ◌-◌, ◌&&◌, ◌||◌, nat_lt, Bool, true, false}
use Rattle.std.specs.Prelude.{get_or, List, Some, slice_get}
use Rattle.irig_codes.specs.Format.{FormatView}
use Rattle.irig_recording.specs.declared.pulse.Pulse.{Pulse}
use Rattle.irig_track.specs.Splices.{risen_by}
use Rattle.irig_law.specs.{Doubting.IsDoubted, declared.frame.Frame.Frame}

-- the law of time doubts a pulse between two of the believed frames, next to each other
pub record IsDoubtedPulse (f : FormatView) (century : ℕ) (ps : List Pulse) (frames : List Frame)
    (k : ℕ) : Type 0 where
  pub place : ℕ
  pub one : Frame
  pub other : Frame
  pub first : slice_get frames place ≡ Some one
  pub second : slice_get frames (place + 1) ≡ Some other
  pub is : IsDoubted f century ps one other k

-- the last pulse that has risen by a time, or the next one, is doubted
pub record IsNextToDoubt (f : FormatView) (century : ℕ) (ps : List Pulse) (frames : List Frame)
    (micros : ℕ) : Type 0 where
  pub pulse : ℕ
  pub next : (pulse + 1 ≡ risen_by micros ps) ⊎ (pulse ≡ risen_by micros ps)
  pub doubted : IsDoubtedPulse f century ps frames pulse

-- a list has of each pulse whether it is doubted; of a pulse past its end it is not
abbrev pub AreDoubts : FormatView → ℕ → List Pulse → List Frame → List Bool → Type 0
AreDoubts f century ps frames list =
    (k : ℕ) → (get_or list k false ≡ true) ↔ IsDoubtedPulse f century ps frames k

-- by such a list, if that many pulses have risen
abbrev pub is_next : List Bool → ℕ → Bool
is_next list risen =
    get_or list risen false || (nat_lt 0 risen && get_or list (risen - 1) false)
