-- A stretch is touched if a pulse rises at or before its end and falls at or after its begin.
use Rattle.std.proofs.Common.{◌≡◌, ◌≤◌, ◌<◌, ◌+◌, ◌-◌, ℕ, suc, Bool, true, false, ◌&&◌, ◌||◌, ◌⊎◌, inl, inr, nat_lt, nat_le, List, [], ◌∷◌, take, drop}
use Rattle.std.proofs.Common.{slice_get, Some, zero, refl, ap, sym, ◌∙◌, subst, arith}
use Rattle.std.proofs.Math.Bool.{not-not, or-false, or-true}
use Rattle.std.proofs.lemmas.{Bool.and_right, Bool.cases_lt, Bool.or_parts, Bool.Decides.nat_tests, Option.slice_get_within}
use Rattle.std.specs.List.{list_any}
use Rattle.irig_recording.specs.{Recording.RisesFrom, Recording.level_by_edges, declared.pulse.Pulse.Pulse}
use Rattle.irig_track.specs.{Edges.edges_of, Edges.Under, Splices.risen_by}
use Rattle.irig_track.proofs.Searches.{risen_none, risen_yes}
use Rattle.irig_edit.specs.{State.State.State, State.State.IsState, Edits.Conditions.is_touched}

-- a time lies in a stretch, both ends included
abbrev pub lies_in : ℕ → ℕ → ℕ → Bool
lies_in a b e = nat_le a e && nat_le e b

-- a pulse is somewhere in a stretch
abbrev pub meets_stretch : ℕ → ℕ → Pulse → Bool
meets_stretch a b p = nat_le p.rise b && nat_le a p.fall

-- before the first edge the level is low
pub level_by_edges-before : (a low : ℕ) (xs : List ℕ) → a < low → RisesFrom low xs → level_by_edges a xs ≡ false
level_by_edges-before a low [] before rises = refl
level_by_edges-before a low (x ∷ xs) before rises =
    let later : nat_le x a ≡ false = grind (arith, nat_tests) in
    rw later (level_by_edges-before a (x + 1) xs (omega (arith, rises.0)) rises.1)

-- an edge lies in a stretch, or the level is high at its begin
abbrev touched : ℕ → ℕ → List ℕ → Bool
touched a b xs = list_any (lies_in a b) xs || level_by_edges a xs

-- a pulse that ends before the stretch does not touch it
pub touched-before : (a b : ℕ) (p : Pulse) (xs : List ℕ) → p.rise < p.fall → p.fall < a
    → touched a b (p.rise ∷ p.fall ∷ xs) ≡ touched a b xs
touched-before a b p xs high before =
    let one : nat_le a p.rise ≡ false = grind (arith, nat_tests) in
    let two : nat_le a p.fall ≡ false = grind (arith, nat_tests) in
    let rise : nat_le p.rise a ≡ true = grind (arith, nat_tests) in
    let fall : nat_le p.fall a ≡ true = grind (arith, nat_tests) in
    rw one (rw two (rw rise (rw fall (rw not-not refl))))

-- nor does one that rises after it
pub touched-behind : (a b : ℕ) (p : Pulse) (xs : List ℕ) → a < b → p.rise < p.fall → b < p.rise
    → touched a b (p.rise ∷ p.fall ∷ xs) ≡ touched a b xs
touched-behind a b p xs order high behind =
    let one : nat_le p.rise b ≡ false = grind (arith, nat_tests) in
    let two : nat_le p.fall b ≡ false = grind (arith, nat_tests) in
    let in_one : nat_le a p.rise ≡ true = grind (arith, nat_tests) in
    let in_two : nat_le a p.fall ≡ true = grind (arith, nat_tests) in
    let rise : nat_le p.rise a ≡ false = grind (arith, nat_tests) in
    let fall : nat_le p.fall a ≡ false = grind (arith, nat_tests) in
    rw one (rw two (rw in_one (rw in_two (rw rise (rw fall refl)))))

-- any other does
pub touched-met : (a b : ℕ) (p : Pulse) (xs : List ℕ) → a < b → p.rise < p.fall → p.rise ≤ b → a ≤ p.fall → RisesFrom (p.fall + 1) xs
    → touched a b (p.rise ∷ p.fall ∷ xs) ≡ true
touched-met a b p xs order high early late rises = at_begin (cases_lt p.rise a) (cases_lt b p.fall) where
  at_begin : (p.rise < a) ⊎ (a ≤ p.rise) → (b < p.fall) ⊎ (p.fall ≤ b) → touched a b (p.rise ∷ p.fall ∷ xs) ≡ true
  at_begin (inr behind) _ =
      let one : nat_le a p.rise ≡ true = grind (arith, nat_tests) in
      let two : nat_le p.rise b ≡ true = grind (arith, nat_tests) in
      rw one (rw two refl)
  at_begin (inl before) (inr within) =
      let one : nat_le a p.rise ≡ false = grind (arith, nat_tests) in
      let two : nat_le a p.fall ≡ true = grind (arith, nat_tests) in
      let three : nat_le p.fall b ≡ true = grind (arith, nat_tests) in
      rw one (rw two (rw three refl))
  at_begin (inl before) (inl over) =
      let one : nat_le a p.rise ≡ false = grind (arith, nat_tests) in
      let two : nat_le p.fall b ≡ false = grind (arith, nat_tests) in
      let three : nat_le p.rise a ≡ true = grind (arith, nat_tests) in
      let four : nat_le p.fall a ≡ false = grind (arith, nat_tests) in
      let low : level_by_edges a xs ≡ false = level_by_edges-before a (p.fall + 1) xs (omega arith) rises in
      let in_two : nat_le a p.fall ≡ true = grind (arith, nat_tests) in
      rw one (rw two (rw three (rw four (rw low (rw in_two (or-true (list_any (lies_in a b) xs)))))))

-- a stretch is touched if a pulse meets it
pub touched-any : (a b low : ℕ) (ps : List Pulse) → a < b → RisesFrom low (edges_of ps)
    → touched a b (edges_of ps) ≡ list_any (meets_stretch a b) ps
touched-any a b low [] order rises = refl
touched-any a b low (p ∷ ps) order rises =
    by_case (cases_lt p.fall a) (cases_lt b p.rise) (touched-any a b (p.fall + 1) ps order rises.1.1) where
      high : p.rise < p.fall
      high = omega (arith, rises.1.0)

      by_case : (p.fall < a) ⊎ (a ≤ p.fall) → (b < p.rise) ⊎ (p.rise ≤ b)
          → touched a b (edges_of ps) ≡ list_any (meets_stretch a b) ps
          → touched a b (edges_of (p ∷ ps)) ≡ list_any (meets_stretch a b) (p ∷ ps)
      by_case (inl before) _ rest =
          let no : nat_le a p.fall ≡ false = grind (arith, nat_tests) in
          touched-before a b p (edges_of ps) high before ∙ rest
          ∙ sym (ap (λ v. v || list_any (meets_stretch a b) ps) (and_right (nat_le p.rise b) (nat_le a p.fall) no))
      by_case (inr late) (inl behind) rest =
          let no : nat_le p.rise b ≡ false = grind (arith, nat_tests) in
          touched-behind a b p (edges_of ps) order high behind ∙ rest ∙ rw no refl
      by_case (inr late) (inr early) rest =
          let yes : nat_le p.rise b ≡ true = grind (arith, nat_tests) in
          let too : nat_le a p.fall ≡ true = grind (arith, nat_tests) in
          touched-met a b p (edges_of ps) order high early late rises.1.1 ∙ rw yes (rw too refl)

add-one-left : (n : ℕ) → suc n ≡ 1 + n
add-one-left n = omega arith

-- if no pulse meets a stretch, those that rise at or before its end fall before it, and the others rise after it
pub free_sides : (a b low : ℕ) (ps : List Pulse) → a < b → RisesFrom low (edges_of ps) → list_any (meets_stretch a b) ps ≡ false
    → Under a (edges_of (take (risen_by b ps) ps)) × RisesFrom (b + 1) (edges_of (drop (risen_by b ps) ps))
free_sides a b low [] order rises none = (tt, tt)
free_sides a b low (p ∷ ps) order rises none =
    by_case (cases_lt b p.rise) (cases_lt p.fall a) (free_sides a b (p.fall + 1) ps order rises.1.1) where
      Sides : List Pulse → Type 0
      Sides qs = Under a (edges_of (take (risen_by b qs) qs)) × RisesFrom (b + 1) (edges_of (drop (risen_by b qs) qs))

      by_case : (b < p.rise) ⊎ (p.rise ≤ b) → (p.fall < a) ⊎ (a ≤ p.fall) → (list_any (meets_stretch a b) ps ≡ false → Sides ps) → Sides (p ∷ ps)
      by_case (inl behind) _ rest =
          let zero_risen : risen_by b (p ∷ ps) ≡ 0 = risen_none b p.rise (p ∷ ps) behind (omega arith, rises.1) in
          rw zero_risen (tt, (omega arith, rises.1))
      by_case (inr early) (inl before) rest =
          let one_more : risen_by b (p ∷ ps) ≡ suc (risen_by b ps) = risen_yes b p ps early ∙ sym (add-one-left (risen_by b ps)) in
          let others = rest (or_parts (meets_stretch a b p) (list_any (meets_stretch a b) ps) none).1 in
          rw one_more ((omega (arith, rises.1.0), (before, others.0)), others.1)
      by_case (inr early) (inr late) rest =
          let yes : nat_le p.rise b ≡ true = grind (arith, nat_tests) in
          let too : nat_le a p.fall ≡ true = grind (arith, nat_tests) in
          let met : meets_stretch a b p ≡ true = rw yes (rw too refl) in
          let other : meets_stretch a b p ≡ false = (or_parts (meets_stretch a b p) (list_any (meets_stretch a b) ps) none).0 in
          let bad : true ≡ false = sym met ∙ other in
          cc

-- no pulse that rises at or before the end is there
pub none_met : (a b low : ℕ) (ps : List Pulse) → RisesFrom low (edges_of ps) → risen_by b ps ≡ 0 → list_any (meets_stretch a b) ps ≡ false
none_met a b low [] rises none = refl
none_met a b low (p ∷ ps) rises none = by_case (cases_lt b p.rise) (none_met a b (p.fall + 1) ps rises.1.1) where
  by_case : (b < p.rise) ⊎ (p.rise ≤ b) → (risen_by b ps ≡ 0 → list_any (meets_stretch a b) ps ≡ false) → list_any (meets_stretch a b) (p ∷ ps) ≡ false
  by_case (inl behind) rest =
      let later : nat_le p.rise b ≡ false = grind (arith, nat_tests) in
      rw later (rest (risen_none b (p.fall + 1) ps (omega (arith, rises.1.0)) rises.1.1))
  by_case (inr early) rest = absurd (let one = risen_yes b p ps early in omega (arith, one, none))

-- what a pulse of rising edges is
pub pulse_after : (low i : ℕ) (p : Pulse) (ps : List Pulse) → RisesFrom low (edges_of ps) → slice_get ps i ≡ Some p → (low ≤ p.rise) × (p.rise < p.fall)
pulse_after low i p [] rises is = absurd (let none = slice_get_within [] i p is in omega (arith, none))
pulse_after low zero p (q ∷ ps) rises is =
    let same : q ≡ p = cc in
    let P : Pulse → Type 0 = λ r. (low ≤ r.rise) × (r.rise < r.fall) in
    subst P same (rises.0, omega (arith, rises.1.0))
pulse_after low (suc i) p (q ∷ ps) rises is =
    let rest = pulse_after (q.fall + 1) i p ps rises.1.1 is in
    (omega (arith, rest.0, rises.0, rises.1.0), rest.1)

-- of the pulses that rise at or before the end the last one falls last
pub last_meets : (a b low n : ℕ) (p : Pulse) (ps : List Pulse) → RisesFrom low (edges_of ps) → risen_by b ps ≡ suc n → slice_get ps n ≡ Some p
    → list_any (meets_stretch a b) ps ≡ nat_le a p.fall
last_meets a b low n p [] rises count is = absurd (let none = slice_get_within [] n p is in omega (arith, none))
last_meets a b low zero p (q ∷ ps) rises count is = by_case (cases_lt b q.rise) where
  by_case : (b < q.rise) ⊎ (q.rise ≤ b) → list_any (meets_stretch a b) (q ∷ ps) ≡ nat_le a p.fall
  by_case (inl behind) = absurd (let zero_risen = risen_none b q.rise (q ∷ ps) behind (omega arith, rises.1) in omega (arith, zero_risen, count))
  by_case (inr early) =
      let yes : nat_le q.rise b ≡ true = grind (arith, nat_tests) in
      let one = risen_yes b q ps early in
      let others : list_any (meets_stretch a b) ps ≡ false = none_met a b (q.fall + 1) ps rises.1.1 (omega (arith, one, count)) in
      let same : q ≡ p = cc in
      rw yes (rw others (or-false (nat_le a q.fall) ∙ ap (λ (r : Pulse). nat_le a r.fall) same))
last_meets a b low (suc n) p (q ∷ ps) rises count is =
    by_case (cases_lt b q.rise) (cases_lt p.fall a) (last_meets a b (q.fall + 1) n p ps rises.1.1) where
      by_case : (b < q.rise) ⊎ (q.rise ≤ b) → (p.fall < a) ⊎ (a ≤ p.fall)
          → (risen_by b ps ≡ suc n → slice_get ps n ≡ Some p → list_any (meets_stretch a b) ps ≡ nat_le a p.fall)
          → list_any (meets_stretch a b) (q ∷ ps) ≡ nat_le a p.fall
      by_case (inl behind) _ rest = absurd (let zero_risen = risen_none b q.rise (q ∷ ps) behind (omega arith, rises.1) in omega (arith, zero_risen, count))
      by_case (inr early) (inr late) rest =
          let one = risen_yes b q ps early in
          let others = rest (omega (arith, one, count)) is in
          let too : nat_le a p.fall ≡ true = grind (arith, nat_tests) in
          rw others (rw too (or-true (meets_stretch a b q)))
      by_case (inr early) (inl before) rest =
          let one = risen_yes b q ps early in
          let others = rest (omega (arith, one, count)) is in
          let after = pulse_after (q.fall + 1) n p ps rises.1.1 is in
          let first : nat_le a q.fall ≡ false = grind (arith, nat_tests) in
          rw others (ap (λ v. v || nat_le a p.fall) (and_right (nat_le q.rise b) (nat_le a q.fall) first))

-- the state's stretch is touched if the last pulse that rises at or before its end falls at or after its begin
pub is_touched-last : (a b risen : ℕ) (s : State) (p : Pulse) → a < b → IsState s → risen ≡ risen_by b s.pulses → 0 < risen
    → slice_get s.pulses (risen - 1) ≡ Some p → is_touched a b s ≡ nat_le a p.fall
is_touched-last a b zero s p order lawful count some is = absurd (omega (arith, some))
is_touched-last a b (suc n) s p order lawful count some is =
    let less : suc n - 1 ≡ n = omega arith in
    touched-any a b 0 s.pulses order lawful.track.rises
    ∙ last_meets a b 0 n p s.pulses lawful.track.rises (sym count) (sym (ap (slice_get s.pulses) less) ∙ is)

pub is_touched-none : (a b risen : ℕ) (s : State) → a < b → IsState s → risen ≡ risen_by b s.pulses → risen ≤ 0
    → is_touched a b s ≡ nat_lt 0 risen
is_touched-none a b risen s order lawful count none =
    let low : nat_lt 0 risen ≡ false = grind (arith, nat_tests) in
    touched-any a b 0 s.pulses order lawful.track.rises
    ∙ none_met a b 0 s.pulses lawful.track.rises (omega (arith, count, none)) ∙ sym low
