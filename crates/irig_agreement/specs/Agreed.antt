-- Stretches of a recording and a result in which both have the same pulses. This project's own.
use Rattle.std.specs.Prelude.{◌≡◌, ℕ, ◌+◌, ◌-◌, ◌<◌, ◌≤◌, List, Some, slice_get}
use Rattle.irig_codes.specs.Format.{FormatView}
use Rattle.irig_recording.specs.declared.pulse.Pulse.{Pulse}
use Rattle.irig_timed.specs.declared.run.Run.{Run}
use Rattle.irig_agreement.specs.{Agreement.Agrees, declared.agreed.Agreed.Agreed}

-- they agree at each moment from the begin of a span to before its end
abbrev pub HasAgreed : FormatView → ℕ → List Pulse → List Pulse → Agreed → Type 0
HasAgreed f century old new a =
    (micros : ℕ) → a.begin ≤ micros → micros < a.end → Agrees f century old new micros

-- n pulses rise when as many of the other track do, from one pulse of each on
abbrev pub RiseAlike : List Pulse → List Pulse → ℕ → ℕ → ℕ → Type 0
RiseAlike old new one other n = (i : ℕ) (p q : Pulse) → i < n
    → slice_get old (one + i) ≡ Some p → slice_get new (other + i) ≡ Some q → p.rise ≡ q.rise

-- this run has a pulse
pub record HasPulse (runs : List Run) (r : Run) (number : ℕ) : Type 0 where
  pub at : ℕ
  pub there : slice_get runs at ≡ Some r
  pub from : r.number ≤ number
  pub few : number < r.number + r.count

-- two pulses of two runs are the same element
pub record AreSame (r s : Run) (one other : ℕ) : Type 0 where
  pub frame : r.frame ≡ s.frame
  pub element : r.element + (one - r.number) ≡ s.element + (other - s.number)
