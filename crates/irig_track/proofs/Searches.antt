-- How many pulses rise at or before a time.
use Rattle.std.proofs.Common.{◌≡◌, ℕ, suc, zero, ◌+◌, ◌-◌, ◌<◌, ◌≤◌, nat_le, Bool, true, false, cond, List, [], ◌∷◌, length, slice_get, Some, refl, ap, subst}
use Rattle.std.proofs.Common.{arith, inl, inr}
use Rattle.std.proofs.lemmas.Bool.{cases_lt, le-leb, le-ltb, lt-leb, lt-ltb}
use Rattle.irig_recording.specs.{declared.pulse.Pulse.Pulse, Recording.RisesFrom}
use Rattle.irig_track.specs.{Edges.edges_of, Splices.risen_by, Splices.ended_before}

pub risen_yes : (t : ℕ) (p : Pulse) (ps : List Pulse) → p.rise ≤ t → risen_by t (p ∷ ps) ≡ 1 + risen_by t ps
risen_yes t p ps h = ap (λ v. cond v 1 0 + risen_by t ps) (le-leb p.rise t h)

risen_no : (t : ℕ) (p : Pulse) (ps : List Pulse) → t < p.rise → risen_by t (p ∷ ps) ≡ 0 + risen_by t ps
risen_no t p ps h = ap (λ v. cond v 1 0 + risen_by t ps) (lt-leb p.rise t h)

pub at_most_one : (v : Bool) (n : ℕ) → cond v 1 0 + n ≤ 1 + n
at_most_one true n = omega arith
at_most_one false n = omega arith

risen_most : (t : ℕ) (p : Pulse) (ps : List Pulse) → risen_by t (p ∷ ps) ≤ 1 + risen_by t ps
risen_most t p ps = at_most_one (nat_le p.rise t) (risen_by t ps)

-- if all rise later
pub risen_none : (t low : ℕ) (ps : List Pulse) → t < low → RisesFrom low (edges_of ps) → risen_by t ps ≡ 0
risen_none t low [] lt h = refl
risen_none t low (p ∷ ps) lt h = omega (arith, risen_no t p ps (omega (arith, h.0)), risen_none t (p.fall + 1) ps (omega (arith, h.0, h.1.0)) h.1.1)

rise_low : (low i : ℕ) (p : Pulse) (ps : List Pulse) → RisesFrom low (edges_of ps) → slice_get ps i ≡ Some p → low ≤ p.rise
rise_low low zero p [] h is = absurd (cc)
rise_low low (suc i) p [] h is = absurd (cc)
rise_low low zero p (q ∷ ps) h is = (let e : q ≡ p = cc in subst (λ (r : Pulse). low ≤ r.rise) e h.0)
rise_low low (suc i) p (q ∷ ps) h is = omega (arith, h.0, h.1.0, rise_low (q.fall + 1) i p ps h.1.1 is)

pub risen_above : (t low i : ℕ) (p : Pulse) (ps : List Pulse) → RisesFrom low (edges_of ps) → slice_get ps i ≡ Some p → p.rise ≤ t → i + 1 ≤ risen_by t ps
risen_above t low zero p [] h is le = absurd (cc)
risen_above t low (suc i) p [] h is le = absurd (cc)
risen_above t low zero p (q ∷ ps) h is le = (let e : q ≡ p = cc in let r : q.rise ≡ p.rise = ap (λ (z : Pulse). z.rise) e in
    omega (arith, risen_yes t q ps (omega arith)))
risen_above t low (suc i) p (q ∷ ps) h is le =
    let up = rise_low (q.fall + 1) i p ps h.1.1 is in
    omega (arith, risen_yes t q ps (omega (arith, h.1.0)), risen_above t (q.fall + 1) i p ps h.1.1 is le)

pub risen_below : (t low i : ℕ) (p : Pulse) (ps : List Pulse) → RisesFrom low (edges_of ps) → slice_get ps i ≡ Some p → t < p.rise → risen_by t ps ≤ i
risen_below t low zero p [] h is lt = absurd (cc)
risen_below t low (suc i) p [] h is lt = absurd (cc)
risen_below t low zero p (q ∷ ps) h is lt = (let e : q ≡ p = cc in let r : q.rise ≡ p.rise = ap (λ (z : Pulse). z.rise) e in
    omega (arith, risen_none t q.rise (q ∷ ps) (omega arith) (omega arith, h.1)))
risen_below t low (suc i) p (q ∷ ps) h is lt = omega (arith, risen_most t q ps, risen_below t (q.fall + 1) i p ps h.1.1 is lt)

pub risen_by-le : (t : ℕ) (ps : List Pulse) → risen_by t ps ≤ length ps
risen_by-le t [] = omega arith
risen_by-le t (p ∷ ps) = omega (arith, risen_most t p ps, risen_by-le t ps)

pub ended_yes : (t : ℕ) (p : Pulse) (ps : List Pulse) → p.fall < t → ended_before t (p ∷ ps) ≡ 1 + ended_before t ps
ended_yes t p ps h = ap (λ v. cond v 1 0 + ended_before t ps) (lt-ltb p.fall t h)

pub ended_no : (t : ℕ) (p : Pulse) (ps : List Pulse) → t ≤ p.fall → ended_before t (p ∷ ps) ≡ 0 + ended_before t ps
ended_no t p ps h = ap (λ v. cond v 1 0 + ended_before t ps) (le-ltb p.fall t h)

-- if none ends before
pub ended_none : (t low : ℕ) (ps : List Pulse) → t ≤ low → RisesFrom low (edges_of ps) → ended_before t ps ≡ 0
ended_none t low [] lt h = refl
ended_none t low (p ∷ ps) lt h = omega (arith, ended_no t p ps (omega (arith, h.0, h.1.0)), ended_none t (p.fall + 1) ps (omega (arith, h.0, h.1.0)) h.1.1)

-- if a later pulse has risen, this one has ended
pub risen_ends : (t : ℕ) (q : Pulse) (ps : List Pulse) (n : ℕ) → RisesFrom (q.rise + 1) (q.fall ∷ edges_of ps) → risen_by t (q ∷ ps) ≡ suc n + 1 → q.fall < t
risen_ends t q ps n h e = elim (cases_lt q.fall t) [
  | inl lt ↦ lt
  | inr le ↦ absurd (omega (arith, risen_most t q ps, risen_none t (q.fall + 1) ps (omega arith) h.1))
]

-- the last pulse that rises at or before a time reaches it
pub ended_at_last : (t low n : ℕ) (p : Pulse) (ps : List Pulse) → RisesFrom low (edges_of ps) → risen_by t ps ≡ n + 1 → slice_get ps n ≡ Some p → t ≤ p.fall
    → ended_before t ps ≡ n
ended_at_last t low zero p [] h e is le = absurd (cc)
ended_at_last t low (suc n) p [] h e is le = absurd (cc)
ended_at_last t low zero p (q ∷ ps) h e is le =
    let same : q ≡ p = cc in let f : q.fall ≡ p.fall = ap (λ (z : Pulse). z.fall) same in
    omega (arith, ended_no t q ps (omega arith), ended_none t (q.fall + 1) ps (omega arith) h.1.1)
ended_at_last t low (suc n) p (q ∷ ps) h e is le =
    let up = rise_low (q.fall + 1) n p ps h.1.1 is in
    let below : q.fall < t = risen_ends t q ps n h.1 e in
    omega (arith, ended_yes t q ps below, ended_at_last t (q.fall + 1) n p ps h.1.1 (omega (arith, risen_yes t q ps (omega (arith, h.1.0)))) is le)

-- the last pulse that rises at or before a time ends before it, or none rises
pub ended_all : (t low : ℕ) (ps : List Pulse) → RisesFrom low (edges_of ps)
    → ((n : ℕ) (p : Pulse) → risen_by t ps ≡ n + 1 → slice_get ps n ≡ Some p → p.fall < t) → ended_before t ps ≡ risen_by t ps
ended_all t low [] h last = refl
ended_all t low (q ∷ ps) h last = elim (cases_lt t q.rise) [
  | inl lt ↦ omega (arith, risen_none t q.rise (q ∷ ps) lt (omega arith, h.1), ended_none t q.rise (q ∷ ps) (omega arith) (omega arith, h.1))
  | inr le ↦ (
      let r = risen_yes t q ps le in
      let rest : ended_before t ps ≡ risen_by t ps = ended_all t (q.fall + 1) ps h.1.1 (λ n p e is. last (suc n) p (omega (arith, e)) is) in
      let ends : q.fall < t = elim (cases_lt 0 (risen_by t ps)) [
        | inl some ↦ risen_ends t q ps (risen_by t ps - 1) h.1 (omega arith)
        | inr none ↦ last 0 q (omega arith) refl
      ] in
      omega (arith, ended_yes t q ps ends))
]
