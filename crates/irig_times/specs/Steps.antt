-- Pulses that follow one another in step. This project's own.
use Rattle.std.specs.Prelude.{ℕ, zero, suc, ◌+◌, ◌-◌, ◌&&◌, Bool, true, false, List, Option, Some}
use Rattle.std.specs.Prelude.{slice_get, if◌then◌else◌}
use Rattle.irig_codes.specs.{Format.FormatView, Width.is_in_step, Width.step_in}
use Rattle.irig_recording.specs.declared.pulse.Pulse.{Pulse}
use Rattle.irig_index.specs.Marker.{follows}

-- two pulses are there, and the second rises one interval after the first, to a tenth of it
abbrev pub is_regular : FormatView → Option Pulse → Option Pulse → Bool
is_regular f (Some p) (Some q) = follows f p q
is_regular f p q = false

-- how long after one pulse another rises; 0 if one of them is not there
abbrev pub apart : Option Pulse → Option Pulse → ℕ
apart (Some p) (Some q) = q.rise - p.rise
apart p q = 0

-- the same of the pulses with these numbers
abbrev pub micros_between : List Pulse → ℕ → ℕ → ℕ
micros_between ps one other = apart (slice_get ps one) (slice_get ps other)

-- and of the pulse with a number, after the one before it
abbrev pub step_at : List Pulse → ℕ → ℕ
step_at ps zero = 0
step_at ps (suc k) = apart (slice_get ps k) (slice_get ps (suc k))

-- a step is as long as one next to it, to a tenth of that one, if that one is in step at all
abbrev pub is_as_long : FormatView → ℕ → ℕ → Bool
is_as_long f step other = if is_in_step f other then step_in other step else true

-- the step to the pulse with this number is as long as those next to it, so that a rise that is
-- late or early by more than a tenth is not in step on a clock that is slow or fast
abbrev pub is_even_at : FormatView → List Pulse → ℕ → Bool
is_even_at f ps k =
    is_as_long f (step_at ps k) (step_at ps (k - 1))
    && is_as_long f (step_at ps k) (step_at ps (k + 1))

-- the pulse with this number rises one interval after the one before it
abbrev pub follows_at : FormatView → List Pulse → ℕ → Bool
follows_at f ps zero = false
follows_at f ps (suc k) = is_regular f (slice_get ps k) (slice_get ps (suc k))

-- the pulse with this number is in step with the one before it
abbrev pub is_in_step_at : FormatView → List Pulse → ℕ → Bool
is_in_step_at f ps k = follows_at f ps k && is_even_at f ps k
