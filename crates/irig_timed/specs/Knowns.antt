-- What is known of the times of a track, what a search for a moment finds, and that a moment
-- without a time has one reason. This project's own.
use Rattle.std.specs.Prelude.{◌≡◌, ◌↔◌, ℕ, ◌≤◌, Bool, List, length, Some, slice_get}
use Rattle.irig_codes.specs.Format.{FormatView}
use Rattle.irig_recording.specs.declared.pulse.Pulse.{Pulse}
use Rattle.irig_law.specs.{Points.AreFrames, declared.frame.Frame.Frame, declared.point.Point.Point}
use Rattle.irig_timed.specs.{Held.held, Moments.IsElement, Moments.frames_by, Moments.IsTimed}
use Rattle.irig_timed.specs.{Reasons.gap_with, Reasons.HasNoTime, Runs.AreRuns, Runs.IsIn}
use Rattle.irig_timed.specs.{Runs.place_at, Runs.place_before, declared.gap.Gap.Gap}
use Rattle.irig_timed.specs.{declared.known.Known.Known, declared.run.Run.Run, Around.AreAround}
use Rattle.irig_timed.specs.{declared.around.Around.Around, declared.gap.Gap.TheVariants.Line}
use Rattle.irig_timed.specs.declared.run.Place.{Place}
use Rattle.irig_times.specs.{declared.time.Time.Time, declared.why.Why.Why}

-- these gaps are before each run, and after the last one
abbrev pub AreGaps : FormatView → ℕ → List Pulse → List Frame → List Bool → List Run → List Gap
    → Type 0
AreGaps f century ps believed held runs gaps =
    (i : ℕ) → i ≤ length runs → slice_get gaps i
    ≡ Some (gap_with f century ps believed held (place_before runs i) (place_at runs i))

-- the runs have the pulses of a track that have a time, and the gaps are between them
pub record IsKnownIn (f : FormatView) (century : ℕ) (ps : List Pulse) (believed : List Frame)
    (held : List Bool) (runs : List Run) (gaps : List Gap) : Type 0 where
  pub are_runs : AreRuns f ps runs
  pub points : (k : ℕ) (x : Point) → IsIn runs k x ↔ IsElement f century ps believed k x
  pub are_gaps : AreGaps f century ps believed held runs gaps

-- of each record, too, whether its frame is believed, and which frames are
abbrev pub IsKnownBy : FormatView → ℕ → List Pulse → List Frame → List Bool → Known → Type 0
IsKnownBy f century ps believed held known =
    IsKnownIn f century ps believed held known.runs.items known.gaps.items
    × (known.held.items ≡ held) × (known.frames.items ≡ believed) × AreFrames ps believed

abbrev pub IsKnown : FormatView → Bool → ℕ → List Pulse → Known → Type 0
IsKnown f alone century ps known =
    IsKnownBy f century ps (frames_by f alone century ps) (held f alone century ps) known

-- if that many pulses have risen, these are the last with a time and the next, and what is between
pub record IsAround (f : FormatView) (century : ℕ) (ps : List Pulse) (believed : List Frame)
    (held : List Bool) (risen : ℕ) (a : Around) : Type 0 where
  pub around : AreAround (IsElement f century ps believed) risen a.from a.to
  pub gap : a.gap ≡ gap_with f century ps believed held a.from a.to

-- between these two time goes on the line
pub record IsLine (a : Around) (from to : Place) (bound : ℕ) : Type 0 where
  pub last : a.from ≡ Some from
  pub next : a.to ≡ Some to
  pub line : a.gap ≡ Line bound

-- a moment has no time for one reason at most
abbrev pub OneWhy : Type 0
OneWhy = (f : FormatView) (alone : Bool) (century : ℕ) (ps : List Pulse) (known : Known)
    → IsKnown f alone century ps known → (d n : ℕ) (v w : Why)
    → HasNoTime f alone century ps d n v → HasNoTime f alone century ps d n w → v ≡ w

-- it has none exactly if there is a reason
abbrev pub NoneIffWhy : Type 0
NoneIffWhy = (f : FormatView) (alone : Bool) (century : ℕ) (ps : List Pulse) (known : Known)
    → IsKnown f alone century ps known → (d n : ℕ)
    → ((x : Time) → IsTimed f alone century ps d n x → ⊥)
    ↔ ((why : Why) × HasNoTime f alone century ps d n why)
