-- The elements of a track, as runs. This project's own.
use Rattle.std.specs.Prelude.{◌≡◌, ℕ, zero, suc, ◌+◌, ◌-◌, ◌^◌, ◌<◌, ◌≤◌, true, List, length}
use Rattle.std.specs.Prelude.{Option, None, option_map, slice_get, Some}
use Rattle.irig_codes.specs.{Format.FormatView, Width.is_in_step}
use Rattle.irig_recording.specs.declared.pulse.Pulse.{Pulse}
use Rattle.irig_times.specs.Steps.{micros_between}
use Rattle.irig_law.specs.declared.point.Point.{Point}
use Rattle.irig_timed.specs.{declared.run.Place.Place, declared.run.Run.Run}

-- a run is pulses that follow one another, as elements of one frame of the code; these are its
-- first pulse and its last one
abbrev pub nth_of : Run → ℕ → Place
nth_of r n = record {
  number = r.number + n;
  point = record { frame = r.frame; element = r.element + n };
}

abbrev pub first_of : Run → Place
first_of r = nth_of r 0

abbrev pub last_of : Run → Place
last_of r = nth_of r (r.count - 1)

-- by some runs a pulse is this element
pub record IsIn (runs : List Run) (number : ℕ) (x : Point) : Type 0 where
  pub at : ℕ
  pub one : Run
  pub there : slice_get runs at ≡ Some one
  pub from : one.number ≤ number
  pub few : number < one.number + one.count
  pub place : one.number + x.element ≡ one.element + number
  pub is : one.frame ≡ x.frame

-- a run before the pulse n of a track has a pulse, and each step in it is one interval
pub record IsRun (f : FormatView) (ps : List Pulse) (n : ℕ) (r : Run) : Type 0 where
  pub some : 0 < r.count
  pub inside : r.number + r.count ≤ n
  pub low : r.number + r.count ≤ 2 ^ 63
  pub few : r.element + r.count ≤ 100
  pub minute : r.frame.micros < 61000000
  pub steps : (k : ℕ) → r.number ≤ k → k + 1 < r.number + r.count
      → is_in_step f (micros_between ps k (k + 1)) ≡ true

-- runs before that pulse are in order
pub record AreRunsTo (f : FormatView) (ps : List Pulse) (n : ℕ) (runs : List Run) : Type 0 where
  pub each : (i : ℕ) (r : Run) → slice_get runs i ≡ Some r → IsRun f ps n r
  pub order : (i : ℕ) (r s : Run) → slice_get runs i ≡ Some r → slice_get runs (i + 1) ≡ Some s
      → r.number + r.count ≤ s.number

abbrev pub AreRuns : FormatView → List Pulse → List Run → Type 0
AreRuns f ps runs = AreRunsTo f ps (length ps) runs

-- that many runs begin before a pulse
pub record RunsBy (runs : List Run) (number many : ℕ) : Type 0 where
  pub before : (i : ℕ) (r : Run) → slice_get runs i ≡ Some r → i < many → r.number < number
  pub after : (i : ℕ) (r : Run) → slice_get runs i ≡ Some r → many ≤ i → number ≤ r.number

-- the last pulse with a time before the run at a place, and its first one
abbrev pub place_before : List Run → ℕ → Option Place
place_before runs zero = None
place_before runs (suc k) = option_map last_of (slice_get runs k)

abbrev pub place_at : List Run → ℕ → Option Place
place_at runs k = option_map first_of (slice_get runs k)
