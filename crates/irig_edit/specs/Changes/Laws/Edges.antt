-- Pulses and their edges determine each other. This project's own.
use Rattle.std.proofs.Common.{◌≡◌, ℕ, true, false, List, [], ◌∷◌, refl, ap, sym, ◌∙◌}
use Rattle.std.proofs.Math.Bool.{not-not}
use Rattle.irig_recording.specs.{Recording.is_even_long, declared.pulse.Pulse.Pulse}
use Rattle.irig_track.specs.{Edges.edges_of, Toggles.CanToggle, Toggles.toggled}
use Rattle.irig_edit.specs.Changes.Single.{pulses_of}

-- pulses are determined by their edges
pub pulses_of-edges_of : (ps : List Pulse) → pulses_of (edges_of ps) ≡ ps
pulses_of-edges_of [] = refl
pulses_of-edges_of (p ∷ ps) = ap (λ (qs : List Pulse). p ∷ qs) (pulses_of-edges_of ps)

pub edges_of-pulses_of : (xs : List ℕ) → is_even_long xs ≡ true → edges_of (pulses_of xs) ≡ xs
edges_of-pulses_of [] even = refl
edges_of-pulses_of (x ∷ []) even = let bad : false ≡ true = even in cc
edges_of-pulses_of (x ∷ y ∷ xs) even =
    ap (λ (zs : List ℕ). x ∷ y ∷ zs)
    (edges_of-pulses_of xs (sym (not-not (is_even_long xs)) ∙ even))

-- after a toggle the edges are as the toggle says
pub edges_of-toggled : (micros a b : ℕ) (ps : List Pulse) → CanToggle micros a b ps
    → edges_of (pulses_of (toggled a b (edges_of ps))) ≡ toggled a b (edges_of ps)
edges_of-toggled micros a b ps can = edges_of-pulses_of (toggled a b (edges_of ps)) can.track.even
