-- Symmetric differences of rising lists, as sets of edges. This project's own.
use Rattle.std.specs.Prelude.{ℕ, Bool, List, [], ◌∷◌, cond, not}
use Rattle.irig_recording.specs.declared.pulse.Pulse.{Pulse}
use Rattle.irig_track.specs.Toggles.{flipped, toggled}

-- just one of the two holds
abbrev pub unlike : Bool → Bool → Bool
unlike v w = cond v (not w) w

-- the symmetric difference: each of the first numbers is removed if it is there, and added if not
abbrev pub flips : List ℕ → List ℕ → List ℕ
flips [] xs = xs
flips (t ∷ ts) xs = flips ts (flipped t xs)

-- the edges after an `invert` from the rise to the fall of each pulse, in order
abbrev pub patched : List Pulse → List ℕ → List ℕ
patched [] xs = xs
patched (p ∷ ps) xs = patched ps (toggled p.rise p.fall xs)
