-- The pulses of a track rise one after the other, and so they fall.
use Rattle.std.proofs.Common.{◌+◌, ◌≤◌, ◌<◌, ℕ, zero, suc, List, [], ◌∷◌, length, get_or, arith}
use Rattle.std.specs.List.Sorted.{IsNonDecreasingBy}
use Rattle.irig_recording.specs.{Recording.RisesFrom, declared.pulse.Pulse.Pulse}
use Rattle.irig_track.specs.Edges.{edges_of}

-- none rises or falls before the time from which they rise
pub at_least : (low : ℕ) (ps : List Pulse) (j : ℕ) (d : Pulse) → RisesFrom low (edges_of ps) → j < length ps
    → (low ≤ (get_or ps j d).rise) × (low ≤ (get_or ps j d).fall)
at_least low [] j d h within = absurd (omega (arith, within))
at_least low (p ∷ ps) zero d h within = (h.0, omega (arith, h.0, h.1.0))
at_least low (p ∷ ps) (suc j) d h within =
    let more = at_least (p.fall + 1) ps j d h.1.1 (omega (arith, within)) in
    (omega (arith, h.0, h.1.0, more.0), omega (arith, h.0, h.1.0, more.1))

pub rises_in_order : (low : ℕ) (ps : List Pulse) → RisesFrom low (edges_of ps) → IsNonDecreasingBy (λ (p : Pulse). p.rise) ps
rises_in_order low [] h i j d le within = absurd (omega (arith, within))
rises_in_order low (p ∷ ps) h zero zero d le within = omega arith
rises_in_order low (p ∷ ps) h zero (suc j) d le within =
    let more = at_least (p.fall + 1) ps j d h.1.1 (omega (arith, within)) in
    omega (arith, h.1.0, more.0)
rises_in_order low (p ∷ ps) h (suc i) zero d le within = absurd (omega (arith, le))
rises_in_order low (p ∷ ps) h (suc i) (suc j) d le within = rises_in_order (p.fall + 1) ps h.1.1 i j d (omega (arith, le)) (omega (arith, within))

pub falls_in_order : (low : ℕ) (ps : List Pulse) → RisesFrom low (edges_of ps) → IsNonDecreasingBy (λ (p : Pulse). p.fall) ps
falls_in_order low [] h i j d le within = absurd (omega (arith, within))
falls_in_order low (p ∷ ps) h zero zero d le within = omega arith
falls_in_order low (p ∷ ps) h zero (suc j) d le within =
    let more = at_least (p.fall + 1) ps j d h.1.1 (omega (arith, within)) in
    omega (arith, more.1)
falls_in_order low (p ∷ ps) h (suc i) zero d le within = absurd (omega (arith, le))
falls_in_order low (p ∷ ps) h (suc i) (suc j) d le within = falls_in_order (p.fall + 1) ps h.1.1 i j d (omega (arith, le)) (omega (arith, within))
