-- WHEN A RESULT AGREES WITH A RECORDING: each moment that has a time keeps it, to how far both can
-- be off, and none gets one next to a pulse that the law of time doubts. This project's own.
use Rattle.std.specs.Prelude.{◌≡◌, ◌⊎◌, ℕ, ◌+◌, ◌-◌, ◌*◌, ◌&&◌, ◌||◌, nat_le, nat_lt, Bool, true, false}
use Rattle.std.specs.Prelude.{List, Some, slice_get}
use Rattle.irig_codes.specs.Format.{FormatView}
use Rattle.irig_recording.specs.declared.pulse.Pulse.{Pulse}
use Rattle.irig_times.specs.{Follows.same_time, declared.time.Time.Time}
use Rattle.irig_law.specs.Calendar.{micros_after}
use Rattle.irig_timed.specs.{Bends.off_over, Moments.IsMomentOf, Moments.frames_by}
use Rattle.irig_timed.specs.declared.moment.Moment.{Moment}
use Rattle.irig_agreement.specs.Doubts.{IsNextToDoubt}

-- a track has this time some microseconds after its start
abbrev pub IsTime : FormatView → ℕ → List Pulse → ℕ → Moment → Type 0
IsTime f century ps micros x = IsMomentOf f false century ps 1000000 (1000000 * micros) x

-- by how many microseconds it can be off
abbrev pub off : FormatView → ℕ → List Pulse → Moment → ℕ
off f century ps x = off_over f ps (frames_by f false century ps) x.from x.to x.bound

-- one time is at most that many microseconds after another one; or it is that, or so long before it
abbrev pub is_later_by : ℕ → ℕ → Time → Time → Bool
is_later_by century most t u =
    nat_lt 0 (micros_after century t u) && nat_le (micros_after century t u) most

abbrev pub is_within : ℕ → ℕ → Time → Time → Bool
is_within century most t u =
    same_time t u || (is_later_by century most t u || is_later_by century most u t)

-- two times are apart by no more than both can be off
abbrev pub is_alike : FormatView → ℕ → List Pulse → List Pulse → Moment → Moment → Bool
is_alike f century old new x y =
    is_within century (off f century old x + off f century new y) x.time y.time

-- At a moment the result has the time of the recording. If it has a time next to a pulse of the
-- recording that is doubted, the recording had one.
pub record Agrees (f : FormatView) (century : ℕ) (old new : List Pulse) (micros : ℕ) : Type 0 where
  pub kept : (x : Moment) → IsTime f century old micros x
      → (y : Moment) × IsTime f century new micros y × (is_alike f century old new x y ≡ true)
  pub sure : (y : Moment) → IsTime f century new micros y
      → IsNextToDoubt f century old (frames_by f false century old) micros
      → (x : Moment) × IsTime f century old micros x

-- a pulse rises then, or a microsecond later
pub record IsAtRise (ps : List Pulse) (micros : ℕ) : Type 0 where
  pub number : ℕ
  pub pulse : Pulse
  pub there : slice_get ps number ≡ Some pulse
  pub is : (micros ≡ pulse.rise) ⊎ (micros ≡ pulse.rise - 1)

-- the moments at which times can begin or end to differ: between two rises each is on one line
abbrev pub IsAsked : List Pulse → List Pulse → ℕ → Type 0
IsAsked old new micros = IsAtRise old micros ⊎ IsAtRise new micros

abbrev pub Agree : FormatView → ℕ → List Pulse → List Pulse → Type 0
Agree f century old new =
    (micros : ℕ) → IsAsked old new micros → Agrees f century old new micros
