-- Pulses and their edges, in microseconds. This project's own.
use Rattle.std.specs.Prelude.{ℕ, List, [], ◌∷◌}
use Rattle.irig_recording.specs.declared.pulse.Pulse.{Pulse}

-- the pulse that is high from a to b, in microseconds
abbrev pub pulse : ℕ → ℕ → Pulse
pulse a b = record { rise = a; fall = b }

-- the edges of pulses, in order: rise and fall of each
abbrev pub edges_of : List Pulse → List ℕ
edges_of [] = []
edges_of (p ∷ ps) = p.rise ∷ p.fall ∷ edges_of ps
