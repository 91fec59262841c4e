-- Pulses that fit between two times.
use Rattle.std.proofs.Common.{◌≡◌, ℕ, suc, zero, ◌+◌, ◌<◌, ◌≤◌, List, [], ◌∷◌, ◌++◌, take, drop, slice_get, Some, sym, ap, subst, arith}
use Rattle.irig_recording.specs.{declared.pulse.Pulse.Pulse, Recording.RisesFrom}
use Rattle.irig_track.specs.{Edges.edges_of, Free.following}
use Rattle.irig_track.proofs.{RisingLists.rises_right, Items.drop-item}

-- the pulses from the i-th on fit between low and high
abbrev pub StandFrom : ℕ → ℕ → ℕ → List Pulse → Type 0
StandFrom low high i ps = RisesFrom low (edges_of (drop i ps) ++ high ∷ [])

pub stand_here : (low high i : ℕ) (p : Pulse) (ps : List Pulse) → slice_get ps i ≡ Some p → StandFrom low high i ps
    → (low ≤ p.rise) × (p.rise < p.fall) × (p.fall < high) × StandFrom (p.fall + 1) high (i + 1) ps
stand_here low high i p ps is h =
    let k : RisesFrom low (p.rise ∷ p.fall ∷ (edges_of (drop (i + 1) ps) ++ high ∷ [])) =
    subst (λ qs. RisesFrom low (edges_of qs ++ high ∷ [])) (drop-item ps i p is) h in
    (k.0, omega (arith, k.1.0), omega (arith, (rises_right (p.fall + 1) (edges_of (drop (i + 1) ps)) (high ∷ []) k.1.1).0), k.1.1)

pub stand_next : (low high i : ℕ) (p : Pulse) (ps : List Pulse) → slice_get ps i ≡ Some p → low ≤ p.rise → p.rise < p.fall
    → StandFrom (p.fall + 1) high (i + 1) ps → StandFrom low high i ps
stand_next low high i p ps is a b h = subst (λ qs. RisesFrom low (edges_of qs ++ high ∷ [])) (sym (drop-item ps i p is)) (a, (omega arith, h))

pub rises_split : (low : ℕ) (xs ys : List ℕ) → RisesFrom low (xs ++ ys) → RisesFrom low xs × RisesFrom (following low xs) ys
rises_split low [] ys h = (tt, h)
rises_split low (x ∷ xs) ys h = let r = rises_split (x + 1) xs ys h.1 in ((h.0, r.0), r.1)

pub rises_joined : (low : ℕ) (xs ys : List ℕ) → RisesFrom low xs → RisesFrom (following low xs) ys → RisesFrom low (xs ++ ys)
rises_joined low [] ys h i = i
rises_joined low (x ∷ xs) ys h i = (h.0, rises_joined (x + 1) xs ys h.1 i)

-- only the first of what follows counts
pub rises_first : (low y : ℕ) (xs ys : List ℕ) → RisesFrom (y + 1) ys → RisesFrom low (xs ++ (y ∷ [])) → RisesFrom low (xs ++ (y ∷ ys))
rises_first low y [] ys r h = (h.0, r)
rises_first low y (x ∷ xs) ys r h = (h.0, rises_first (x + 1) y xs ys r h.1)

pub rises_cut : (low y : ℕ) (xs ys : List ℕ) → RisesFrom low (xs ++ (y ∷ ys)) → RisesFrom low (xs ++ (y ∷ []))
rises_cut low y [] ys h = (h.0, tt)
rises_cut low y (x ∷ xs) ys h = (h.0, rises_cut (x + 1) y xs ys h.1)

-- the last pulse of a front part
pub following-last : (low i : ℕ) (p : Pulse) (ps : List Pulse) → slice_get ps i ≡ Some p → following low (edges_of (take (suc i) ps)) ≡ p.fall + 1
following-last low zero p [] is = absurd (cc)
following-last low (suc i) p [] is = absurd (cc)
following-last low zero p (q ∷ ps) is = (let e : q ≡ p = cc in ap (λ (r : Pulse). r.fall + 1) e)
following-last low (suc i) p (q ∷ ps) is = following-last (q.fall + 1) i p ps is
