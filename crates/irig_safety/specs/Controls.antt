-- When the control functions of a frame are borne out, which its time does not decide. This
-- project's own.
use Rattle.std.specs.Prelude.{◌≡◌, ◌<◌, ◌⊎◌, ◌+◌, ◌&&◌, ℕ, Bool, true, List}
use Rattle.std.specs.Prelude.{Option, Some, None, MatchOption, slice_get}
use Rattle.irig_codes.specs.Format.{FormatView, control_count_of}
use Rattle.irig_recording.specs.declared.pulse.Pulse.{Pulse}
use Rattle.irig_safety.specs.Functions.{function_element, shares}
use Rattle.irig_safety.specs.{Original.IsLost, Original.IsRecorded, Original.OriginalView}
use Rattle.irig_safety.specs.{Others.is_told, declared.shown.Shown.Shown}
use Rattle.irig_safety.specs.declared.witnesses.Witnesses.{Witnesses}

-- the two nearest frames have it so: one on each side, or the two of one side if the other has none
abbrev pub is_shared : ℕ → Witnesses → Shown → Bool
is_shared k w y = both w.before2 w.before w.after w.after2 where
  both : Option Shown → Option Shown → Option Shown → Option Shown → Bool
  both a2 a None b2 = shares k a2 y && shares k a y
  both a2 None (Some b) b2 = shares k (Some b) y && shares k b2 y
  both a2 (Some a) (Some b) b2 = shares k (Some a) y && shares k (Some b) y

-- a control function is as the two nearest frames have it; or as it was recorded, or what was
-- recorded of it was lost; or most others of its time have it so
abbrev pub IsFunctionBorne : FormatView → OriginalView → Witnesses → Shown → ℕ → Option Pulse
    → Type 0
IsFunctionBorne f o w y k p =
    (is_shared k w y ≡ true)
    ⊎ (MatchOption p ⊥ (λ q. IsRecorded f o.pulses q ⊎ IsLost f o.pulses q)
    ⊎ (is_told k o.terms.others y ≡ true))

-- all control functions are, of a frame whose marker is at a place of the pulses
abbrev pub AreFunctionsBorne : FormatView → OriginalView → List Pulse → ℕ → Witnesses → Shown
    → Type 0
AreFunctionsBorne f o pulses marker w y = (k : ℕ) → k < control_count_of f
    → IsFunctionBorne f o w y k (slice_get pulses (marker + function_element f k))
