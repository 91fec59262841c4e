-- What is known of a recording as it was opened. This project's own.
use Rattle.std.specs.Prelude.{◌≡◌, ◌≤◌, ◌/◌, ◌-◌, ℕ, Bool, true, false, List, Option, Some, None, drop}
use Rattle.std.specs.Prelude.{slice_get}
use Rattle.irig_codes.specs.Format.{FormatView, interval_of}
use Rattle.irig_codes.specs.Width.{class_of}
use Rattle.irig_recording.specs.declared.pulse.Pulse.{Pulse}
use Rattle.irig_safety.specs.{Bearing.apart, Safety.behind, Terms.OthersView, Terms.TermsView}
use Rattle.irig_safety.specs.declared.{odd.Odd.Odd, shown.Shown.Shown}
use Rattle.irig_safety.specs.declared.witnesses.Witnesses.{Witnesses}

-- the frames that read well, the places of their markers among the pulses, all pulses, the control
-- functions whose pulses are odd, the rises of the loose pulses, and by what repairs are judged
-- besides
pub record OriginalView : Type 0 where
  pub frames : List Shown
  pub markers : List ℕ
  pub pulses : List Pulse
  pub odd : List Odd
  pub loose : List ℕ
  pub terms : TermsView

-- the same with its frames at other places
abbrev pub with_frames : List Shown → OriginalView → OriginalView
with_frames frames o = record o { frames = frames }

-- what is known of control functions besides
abbrev pub others_of : OriginalView → OthersView
others_of o = record { frames = o.terms.others; even = o.terms.even; odd = o.odd }

-- the frames next to those before and those after it
abbrev pub near_by : Option Shown → Option Shown → List Shown → Witnesses
near_by a2 a later = record {
  before2 = a2;
  before = a;
  after = slice_get later 0;
  after2 = slice_get later 1;
}

-- the frames next to a place of frames, and those after it from another place on
abbrev pub near_in : List Shown → ℕ → ℕ → Witnesses
near_in frames place next =
    near_by (behind (place - 1) frames) (behind place frames) (drop next frames)

-- a pulse has the class of another; or if that is all that is asked, it has a class
abbrev pub IsAlike : FormatView → Bool → Pulse → Pulse → Type 0
IsAlike f false other p = class_of f (other.fall - other.rise) ≡ class_of f (p.fall - p.rise)
IsAlike f true other p = class_of f (other.fall - other.rise) ≡ None → ⊥

-- how near a pulse has to be: a tenth of an interval, or half of one if any class will do
abbrev pub reach_of : FormatView → Bool → ℕ
reach_of f false = interval_of f.kind / 10
reach_of f true = interval_of f.kind / 2

-- one of the pulses is alike, and rises near it
pub record IsNear (f : FormatView) (any : Bool) (recorded : List Pulse) (p : Pulse) : Type 0 where
  pub place : ℕ
  pub other : Pulse
  pub there : slice_get recorded place ≡ Some other
  pub near : apart other.rise p.rise ≤ reach_of f any
  pub alike : IsAlike f any other p

-- a pulse is as recorded: one of the same class rises there
abbrev pub IsRecorded : FormatView → List Pulse → Pulse → Type 0
IsRecorded f recorded p = IsNear f false recorded p

-- what was recorded where a pulse rises was lost: nothing that rises there has a class
abbrev pub IsLost : FormatView → List Pulse → Pulse → Type 0
IsLost f recorded p = IsNear f true recorded p → ⊥
