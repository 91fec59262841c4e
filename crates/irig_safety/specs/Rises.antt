-- When the pulses of a frame rise as those of another. This project's own.
use Rattle.std.specs.Prelude.{◌≡◌, ◌<◌, ◌+◌, ◌-◌, ℕ, List, Option, Some, None, slice_get}
use Rattle.irig_recording.specs.declared.pulse.Pulse.{Pulse}

-- when a pulse rises; 0 if there is none
abbrev pub rise_or : Option Pulse → ℕ
rise_or None = 0
rise_or (Some p) = p.rise

-- when the pulse of an element rises, from 0, of a frame whose marker is at this place of the
-- pulses
abbrev pub rise_in : List Pulse → ℕ → ℕ → ℕ
rise_in pulses marker element = rise_or (slice_get pulses (marker + element))

-- each of the 100 pulses of the second frame rises as long after its marker as that of the first
abbrev pub KeepsRises : List Pulse → ℕ → List Pulse → ℕ → Type 0
KeepsRises ps m qs n = (j : ℕ) → j < 100
    → rise_in ps m j - rise_in ps m 0 ≡ rise_in qs n j - rise_in qs n 0
