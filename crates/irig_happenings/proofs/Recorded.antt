-- The pulses of a recording are few, in order, and early.
use Rattle.std.proofs.Common.{◌≡◌, ◌+◌, ◌≤◌, ◌<◌, ◌^◌, ◌++◌, ◌∙◌, ℕ, zero, suc, List, [], ◌∷◌, Some, length, get_or, map, take, arith, ap}
use Rattle.std.specs.Prelude.{slice_get}
use Rattle.std.specs.List.{All}
use Rattle.std.specs.List.Sorted.{IsNonDecreasingBy}
use Rattle.std.proofs.lemmas.{Grind.take_at_read, List.length-map, List.map-append, List.Elements.All-nil, List.Elements.All-cons}
use Rattle.std.proofs.lemmas.Option.{get_or_from_slice_get, slice_get_within}
use Rattle.irig_recording.specs.{Pulses.edges_of, Recording.RisesFrom, Recording.UpTo}
use Rattle.irig_recording.specs.declared.pulse.Pulse as recorded
use Rattle.irig_recording.proofs.PulseEdges.{length-edges_of}
use Rattle.irig_explaining.specs.{Looks.IsTimely, declared.pulse.Pulse.Pulse}
use Rattle.irig_happenings.specs.Listings.{explained_pulse}

-- none rises before the time from which they rise
at_least : (low : ℕ) (ps : List recorded.Pulse) (j : ℕ) (d : Pulse) → RisesFrom low (edges_of ps) → j < length (map explained_pulse ps)
    → low ≤ (get_or (map explained_pulse ps) j d).rise
at_least low [] j d h within = absurd (omega (arith, within))
at_least low (p ∷ ps) zero d h within = h.0
at_least low (p ∷ ps) (suc j) d h within =
    let more = at_least (p.fall + 1) ps j d h.1.1 (omega (arith, within)) in
    omega (arith, h.0, h.1.0, more)

pub in_order : (low : ℕ) (ps : List recorded.Pulse) → RisesFrom low (edges_of ps)
    → IsNonDecreasingBy (λ (p : Pulse). p.rise) (map explained_pulse ps)
in_order low [] h i j d le within = absurd (omega (arith, within))
in_order low (p ∷ ps) h zero zero d le within = omega arith
in_order low (p ∷ ps) h zero (suc j) d le within =
    let more = at_least (p.fall + 1) ps j d h.1.1 (omega (arith, within)) in
    omega (arith, h.1.0, more)
in_order low (p ∷ ps) h (suc i) zero d le within = absurd (omega (arith, le))
in_order low (p ∷ ps) h (suc i) (suc j) d le within = in_order (p.fall + 1) ps h.1.1 i j d (omega (arith, le)) (omega (arith, within))

pub timely : (top : ℕ) (ps : List recorded.Pulse) → top ≤ 2 ^ 40 → UpTo top (edges_of ps) → All IsTimely (map explained_pulse ps)
timely top [] le h = All-nil IsTimely
timely top (p ∷ ps) le h =
    All-cons IsTimely (explained_pulse p) (map explained_pulse ps) (record { rise = omega (arith, le, h.0); fall = omega (arith, le, h.1.0) })
    (timely top ps le h.1.1)

pub few : (ps : List recorded.Pulse) → length (edges_of ps) ≤ 2 ^ 27 → length (map explained_pulse ps) ≤ 2 ^ 26
few ps le = omega (arith, le, length-edges_of ps, length-map ps explained_pulse)

-- one pulse more
pub one-more : (held : List recorded.Pulse) (i : ℕ) (p : recorded.Pulse) → slice_get held i ≡ Some p
    → map explained_pulse (take (i + 1) held) ≡ map explained_pulse (take i held) ++ explained_pulse p ∷ []
one-more held i p is =
    let next = (take_at_read held i p (slice_get_within held i p is)).1
    ∙ ap (λ (q : recorded.Pulse). take i held ++ q ∷ []) (get_or_from_slice_get held i p p is) in
    ap (map explained_pulse) next ∙ map-append explained_pulse (take i held) (p ∷ [])
