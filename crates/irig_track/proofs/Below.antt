-- How many edges lie below a time, which a toggle from that time on leaves.
use Rattle.std.proofs.Common.{◌≡◌, ℕ, ◌+◌, ◌*◌, ◌<◌, ◌≤◌, nat_lt, cond, List, [], ◌∷◌, refl, sym, ap, ◌∙◌, arith, inl, inr}
use Rattle.std.proofs.lemmas.{Bool.cases_lt, Bool.Decides.nat_tests}
use Rattle.irig_recording.specs.{Recording.RisesFrom, declared.pulse.Pulse.Pulse}
use Rattle.irig_track.specs.{Edges.edges_of, Toggles.flipped, Toggles.toggled, Splices.ended_before}
use Rattle.irig_track.proofs.RisingLists.{three, flip_low, flip_same, flip_high, RisesFrom-flipped}
use Rattle.irig_track.proofs.Searches.{ended_yes, ended_no, ended_none}

-- how many numbers are below t
abbrev below : ℕ → List ℕ → ℕ
below t [] = 0
below t (x ∷ xs) = cond (nat_lt x t) 1 0 + below t xs

below_yes : (t x : ℕ) (xs : List ℕ) → x < t → below t (x ∷ xs) ≡ 1 + below t xs
below_yes t x xs h = grind (arith, nat_tests)

below_no : (t x : ℕ) (xs : List ℕ) → t ≤ x → below t (x ∷ xs) ≡ below t xs
below_no t x xs h = grind (arith, nat_tests)

below_none : (t low : ℕ) (xs : List ℕ) → t ≤ low → RisesFrom low xs → below t xs ≡ 0
below_none t low [] le h = refl
below_none t low (x ∷ xs) le h = below_no t x xs (omega (arith, h.0)) ∙ below_none t (x + 1) xs (omega (arith, h.0)) h.1

below-flipped : (t u : ℕ) (xs : List ℕ) → t ≤ u → below t (flipped u xs) ≡ below t xs
below-flipped t u [] le = below_no t u [] le
below-flipped t u (x ∷ xs) le = elim (three u x) [
  | inl lt ↦ ap (below t) (flip_low u x xs lt) ∙ below_no t u (x ∷ xs) le
  | inr r ↦ elim r [
    | inl e ↦ ap (below t) (flip_same u x xs e) ∙ sym (below_no t x xs (omega arith))
    | inr gt ↦ ap (below t) (flip_high u x xs gt) ∙ ap (λ n. cond (nat_lt x t) 1 0 + n) (below-flipped t u xs le)
  ]
]

-- two edges for each pulse that ends before t, and one more if a pulse is high across t
halves : (t low : ℕ) (ps : List Pulse) → RisesFrom low (edges_of ps)
    → (2 * ended_before t ps ≤ below t (edges_of ps)) × (below t (edges_of ps) ≤ 2 * ended_before t ps + 1)
halves t low [] h = (omega arith, omega arith)
halves t low (p ∷ ps) h = elim (cases_lt p.fall t) [
  | inl lt ↦ (
      let rest = halves t (p.fall + 1) ps h.1.1 in
      let here = below_yes t p.rise (p.fall ∷ edges_of ps) (omega (arith, h.1.0)) in
      let next = below_yes t p.fall (edges_of ps) lt in
      let count = ended_yes t p ps lt in
      (omega (arith, rest.0), omega (arith, rest.1)))
  | inr ge ↦ (
      let none = below_none t (p.fall + 1) (edges_of ps) (omega arith) h.1.1 in
      let next = below_no t p.fall (edges_of ps) ge in
      let count = ended_no t p ps ge in
      let rest = ended_none t (p.fall + 1) ps (omega arith) h.1.1 in
      elim (cases_lt p.rise t) [
        | inl lt ↦ (let here = below_yes t p.rise (p.fall ∷ edges_of ps) lt in (omega arith, omega arith))
        | inr le ↦ (let here = below_no t p.rise (p.fall ∷ edges_of ps) le in (omega arith, omega arith))
      ])
]

-- a toggle leaves how many pulses end before it
pub same_below-ended : (a b : ℕ) (old new : List Pulse) → a < b → RisesFrom 0 (edges_of old) → edges_of new ≡ toggled a b (edges_of old)
    → ended_before a old ≡ ended_before a new
same_below-ended a b old new lt h e =
    let up : RisesFrom 0 (edges_of new) = rw e (RisesFrom-flipped 0 b _ (omega arith) (RisesFrom-flipped 0 a _ (omega arith) h)) in
    let first = halves a 0 old h in let second = halves a 0 new up in
    let same : below a (edges_of new) ≡ below a (edges_of old) = ap (below a) e ∙ below-flipped a b (flipped a (edges_of old)) (omega arith)
    ∙ below-flipped a a (edges_of old) (omega arith) in
    omega (arith, first.0, first.1, second.0, second.1)
