-- What one pulse of a track says of the edges round it.
use Rattle.std.proofs.Common.{◌≡◌, ℕ, suc, zero, ◌+◌, ◌<◌, ◌≤◌, ◌==◌, false, ◌||◌, List, [], ◌∷◌, drop, slice_get, Some, refl, ap, ◌∙◌, subst, arith, inl, inr}
use Rattle.std.proofs.lemmas.Bool.{cases_lt}
use Rattle.std.proofs.Math.Bool.{or-false}
use Rattle.irig_recording.specs.{Recording.RisesFrom, Recording.UpTo, declared.pulse.Pulse.Pulse}
use Rattle.irig_track.specs.{Edges.edges_of, Edges.has, Edges.is_edge, Splices.risen_by, Free.first_or}
use Rattle.irig_track.proofs.Searches.{risen_yes, risen_none, risen_ends}
use Rattle.irig_track.proofs.{RisingLists.has_there, RisingLists.has_none, Sets.has-append, Laws.two}

-- a pulse rises before it falls
pub pulse_order : (low i : ℕ) (p : Pulse) (ps : List Pulse) → RisesFrom low (edges_of ps) → slice_get ps i ≡ Some p → p.rise < p.fall
pulse_order low zero p [] h is = absurd (cc)
pulse_order low (suc i) p [] h is = absurd (cc)
pulse_order low zero p (q ∷ ps) h is = (let e : q ≡ p = cc in subst (λ (r : Pulse). r.rise < r.fall) e (omega (arith, h.1.0)))
pulse_order low (suc i) p (q ∷ ps) h is = pulse_order (q.fall + 1) i p ps h.1.1 is

-- a pulse falls within the length
pub pulse_within : (top i : ℕ) (p : Pulse) (ps : List Pulse) → UpTo top (edges_of ps) → slice_get ps i ≡ Some p → p.fall ≤ top
pulse_within top zero p [] h is = absurd (cc)
pulse_within top (suc i) p [] h is = absurd (cc)
pulse_within top zero p (q ∷ ps) h is = (let e : q ≡ p = cc in subst (λ (r : Pulse). r.fall ≤ top) e h.1.0)
pulse_within top (suc i) p (q ∷ ps) h is = pulse_within top i p ps h.1.1 is

pub rise_within : (top i : ℕ) (p : Pulse) (ps : List Pulse) → UpTo top (edges_of ps) → slice_get ps i ≡ Some p → p.rise ≤ top
rise_within top zero p [] h is = absurd (cc)
rise_within top (suc i) p [] h is = absurd (cc)
rise_within top zero p (q ∷ ps) h is = (let e : q ≡ p = cc in subst (λ (r : Pulse). r.rise ≤ top) e h.0)
rise_within top (suc i) p (q ∷ ps) h is = rise_within top i p ps h.1.1 is

-- the first edge from a place on is the rise of the pulse there
pub first_or-drop : (d i : ℕ) (p : Pulse) (ps : List Pulse) → slice_get ps i ≡ Some p → first_or d (edges_of (drop i ps)) ≡ p.rise
first_or-drop d zero p [] is = absurd (cc)
first_or-drop d (suc i) p [] is = absurd (cc)
first_or-drop d zero p (q ∷ ps) is = (let e : q ≡ p = cc in ap (λ (r : Pulse). r.rise) e)
first_or-drop d (suc i) p (q ∷ ps) is = first_or-drop d i p ps is

-- if no pulse has risen there is no edge yet
pub is_edge_none : (t low : ℕ) (ps : List Pulse) → RisesFrom low (edges_of ps) → risen_by t ps ≡ 0 → is_edge t ps ≡ false
is_edge_none t low [] h none = refl
is_edge_none t low (p ∷ ps) h none = elim (cases_lt t p.rise) [
  | inl lt ↦ has_none p.rise t (edges_of (p ∷ ps)) (omega arith, h.1) lt
  | inr le ↦ absurd (omega (arith, risen_yes t p ps le))
]

-- of the pulses that have risen by a time only the last may have an edge there
pub is_edge_last : (t low n : ℕ) (p : Pulse) (ps : List Pulse) → RisesFrom low (edges_of ps) → risen_by t ps ≡ n + 1 → slice_get ps n ≡ Some p
    → is_edge t ps ≡ ((p.rise == t) || (p.fall == t))
is_edge_last t low zero p [] h count is = absurd (cc)
is_edge_last t low (suc n) p [] h count is = absurd (cc)
is_edge_last t low zero p (q ∷ ps) h count is = elim (cases_lt t q.rise) [
  | inl lt ↦ absurd (omega (arith, risen_none t q.rise (q ∷ ps) lt (omega arith, h.1)))
  | inr le ↦ (
      let none : risen_by t ps ≡ 0 = omega (arith, risen_yes t q ps le) in
      let e : q ≡ p = cc in
      has-append t (q.rise ∷ q.fall ∷ []) (edges_of ps) ∙ ap (λ v. has t (q.rise ∷ q.fall ∷ []) || v) (is_edge_none t (q.fall + 1) ps h.1.1 none)
      ∙ or-false (has t (q.rise ∷ q.fall ∷ [])) ∙ two q.rise q.fall t ∙ ap (λ (r : Pulse). (r.rise == t) || (r.fall == t)) e)
]
is_edge_last t low (suc n) p (q ∷ ps) h count is = elim (cases_lt t q.rise) [
  | inl lt ↦ absurd (omega (arith, risen_none t q.rise (q ∷ ps) lt (omega arith, h.1)))
  | inr le ↦ (
      let ends : q.fall < t = risen_ends t q ps n h.1 count in
      has_there q.rise t (q.fall ∷ edges_of ps) (omega (arith, h.1.0)) ∙ has_there q.fall t (edges_of ps) (omega arith)
      ∙ is_edge_last t (q.fall + 1) n p ps h.1.1 (omega (arith, risen_yes t q ps le)) is)
]

-- a higher bound
pub UpTo-more : (top more : ℕ) (xs : List ℕ) → top ≤ more → UpTo top xs → UpTo more xs
UpTo-more top more [] le h = tt
UpTo-more top more (x ∷ xs) le h = (omega (arith, h.0), UpTo-more top more xs le h.1)
