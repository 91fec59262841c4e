-- The places of rises among distances, and the intervals there.
use Rattle.std.proofs.Common.{◌≡◌, ◌+◌, ◌*◌, ◌<◌, ◌≤◌, ℕ, List, [], ◌∷◌, length, map, refl, arith}
use Rattle.std.specs.List.{All}
use Rattle.std.proofs.lemmas.List.Elements.{All-map}
use Rattle.irig_explaining.specs.declared.{distance.Distance.Distance, pulse.Pulse.Pulse}
use Rattle.irig_explaining.specs.Clocks.{interval_of}
use Rattle.irig_explaining.specs.Folds.{first_rise, places, places_after, whole_after}

all_places : (nominal place before : ℕ) (ps : List Pulse) → length (places_after nominal place before ps) ≡ length ps
all_places nominal place before [] = refl
all_places nominal place before (p ∷ ps) =
    omega (arith, all_places nominal (place + length (whole_after nominal before p)) p.rise ps)

-- each rise has one
pub length_places : (nominal : ℕ) (ps : List Pulse) → length (places nominal ps) ≡ length ps
length_places nominal ps = all_places nominal 0 (first_rise ps) ps

-- an interval is neither 0 nor longer than twice the one of the format
pub steady : (nominal spread : ℕ) (ds : List Distance) (ms places : List ℕ) → 0 < nominal
    → All (λ i. (0 < i) × (i ≤ 2 * nominal)) (map (interval_of nominal spread ds ms) places)
steady nominal spread ds ms places some =
    All-map (λ i. (0 < i) × (i ≤ 2 * nominal)) (interval_of nominal spread ds ms) places (λ k d lt. (omega arith, omega arith))
