-- How runs are made of the elements of pulses, one after the other. This project's own.
use Rattle.std.specs.Prelude.{◌≡◌, ◌↔◌, ℕ, ◌+◌, ◌-◌, ◌<◌, ◌≤◌, true, List, length, Option, Some}
use Rattle.std.specs.Prelude.{None, slice_get, if◌then◌else◌}
use Rattle.irig_codes.specs.{Format.FormatView, Width.is_in_step}
use Rattle.irig_recording.specs.declared.pulse.Pulse.{Pulse}
use Rattle.irig_times.specs.Steps.{micros_between}
use Rattle.irig_law.specs.{Points.Knows, declared.point.Point.Point, declared.points.Points.Points}
use Rattle.irig_timed.specs.{Line.is_in_hour, Runs.AreRunsTo, Runs.IsIn, declared.run.Run.Run}

-- what is not past the end of its hour
abbrev pub kept : FormatView → Option Point → Option Point
kept f None = None
kept f (Some x) = if is_in_hour f x then Some x else None

-- a pulse is the next element of a run
pub record IsNext (r : Run) (number : ℕ) (x : Point) : Type 0 where
  pub place : r.number + r.count ≡ number
  pub element : r.element + r.count ≡ x.element
  pub frame : r.frame ≡ x.frame

-- it is that of the last run, and in step
pub record GoesOn (f : FormatView) (ps : List Pulse) (runs : List Run) (number : ℕ) (x : Point)
    : Type 0 where
  pub one : Run
  pub there : slice_get runs (length runs - 1) ≡ Some one
  pub is_next : IsNext one number x
  pub step : is_in_step f (micros_between ps (number - 1) number) ≡ true

abbrev pub longer : Run → Run
longer r = record r { count = r.count + 1 }

-- some runs, with what is known of the next pulse
pub record IsWith (f : FormatView) (ps : List Pulse) (old new : List Run) (number : ℕ)
    (known : Option Point) : Type 0 where
  pub runs : AreRunsTo f ps (number + 1) new
  pub here : (x : Point) → IsIn new number x ↔ (known ≡ Some x)
  pub others : (k : ℕ) (x : Point) → (k ≡ number → ⊥) → IsIn new k x ↔ IsIn old k x

-- some runs, with what points say of the pulses from one up to another one
pub record AreWith (f : FormatView) (ps : List Pulse) (old new : List Run) (p : Points)
    (from to : ℕ) : Type 0 where
  pub runs : AreRunsTo f ps to new
  pub here : (k : ℕ) (x : Point) → from ≤ k → k < to
      → IsIn new k x ↔ (Knows p k x × (kept f (Some x) ≡ Some x))
  pub others : (k : ℕ) (x : Point) → k < from → IsIn new k x ↔ IsIn old k x
