-- Where a toggle takes place, by the lists of pulses alone.
use Rattle.std.proofs.Common.{◌≡◌, ℕ, suc, ◌+◌, ◌-◌, ◌<◌, ◌≤◌, nat_le, Bool, true, false, not, cond, List, [], ◌∷◌, take, drop, refl, sym, ap, ◌∙◌, arith, inl}
use Rattle.std.proofs.Common.{inr}
use Rattle.std.proofs.lemmas.Bool.{cases_lt, le-leb, lt-leb}
use Rattle.std.proofs.Math.Bool.{not-not}
use Rattle.irig_recording.specs.{Recording.RisesFrom, declared.pulse.Pulse.Pulse}
use Rattle.irig_track.specs.{Edges.edges_of, Edges.pulse, Splices.IsSpan, Splices.ended_before, Splices.risen_by, Toggles.flipped, Toggles.toggled}
use Rattle.irig_track.proofs.RisingLists.{three, flip_low, flip_same, flip_high}
use Rattle.irig_track.proofs.Searches.{ended_no, ended_none, ended_yes, risen_by-le, risen_none, risen_yes}
use Rattle.irig_track.proofs.{Below.same_below-ended, Sets.edges_of-inj, Spans.ended_before-le-risen_by}

-- the edges of the pulses that rise after b: the first edge is a fall if it is inside a pulse
abbrev later : Bool → ℕ → List ℕ → List ℕ
later inside b [] = []
later inside b (x ∷ xs) = cond (nat_le x b) (later (not inside) b xs) (cond inside xs (x ∷ xs))

later_early : (inside : Bool) (b x : ℕ) (xs : List ℕ) → x ≤ b → later inside b (x ∷ xs) ≡ later (not inside) b xs
later_early inside b x xs h =
    ap (λ (v : Bool). cond v (later (not inside) b xs) (cond inside xs (x ∷ xs))) (le-leb x b h)

later_late : (inside : Bool) (b x : ℕ) (xs : List ℕ) → b < x → later inside b (x ∷ xs) ≡ cond inside xs (x ∷ xs)
later_late inside b x xs h =
    ap (λ (v : Bool). cond v (later (not inside) b xs) (cond inside xs (x ∷ xs))) (lt-leb x b h)

-- a time flipped by b turns inside and outside
later-flipped : (inside : Bool) (t b : ℕ) (xs : List ℕ) → t ≤ b → later inside b (flipped t xs) ≡ later (not inside) b xs
later-flipped inside t b [] le = later_early inside b t [] le
later-flipped inside t b (x ∷ xs) le = elim (three t x) [
  | inl lt ↦ ap (later inside b) (flip_low t x xs lt) ∙ later_early inside b t (x ∷ xs) le
  | inr r ↦ elim r [
    | inl e ↦ ap (later inside b) (flip_same t x xs e)
        ∙ (ap (λ (v : Bool). later v b xs) (sym (not-not inside)) ∙ sym (later_early (not inside) b x xs (omega (arith, e, le))))
    | inr gt ↦ ap (later inside b) (flip_high t x xs gt)
        ∙ (later_early inside b x (flipped t xs) (omega (arith, gt, le))
        ∙ (later-flipped (not inside) t b xs le ∙ sym (later_early (not inside) b x xs (omega (arith, gt, le)))))
  ]
]

risen_suc : (b : ℕ) (p : Pulse) (ps : List Pulse) → p.rise ≤ b → risen_by b (p ∷ ps) ≡ suc (risen_by b ps)
risen_suc b p ps h = omega (arith, risen_yes b p ps h)

-- the pulses that rise after b have these edges
drop-risen : (b low : ℕ) (ps : List Pulse) → RisesFrom low (edges_of ps) → edges_of (drop (risen_by b ps) ps) ≡ later false b (edges_of ps)
drop-risen b low [] rises = refl
drop-risen b low (p ∷ ps) rises = elim (cases_lt b p.rise) [
  | inl lt ↦
      let none : risen_by b (p ∷ ps) ≡ 0 = risen_none b p.rise (p ∷ ps) lt (omega arith, rises.1) in
      ap (λ n. edges_of (drop n (p ∷ ps))) none ∙ sym (later_late false b p.rise (p.fall ∷ edges_of ps) lt)
  | inr up ↦
      ap (λ n. edges_of (drop n (p ∷ ps))) (risen_suc b p ps up)
      ∙ (elim (cases_lt b p.fall) [
        | inl lt ↦
            ap (λ n. edges_of (drop n ps)) (risen_none b (p.fall + 1) ps (omega (arith, lt)) rises.1.1)
            ∙ sym (later_early false b p.rise (p.fall ∷ edges_of ps) up ∙ later_late true b p.fall (edges_of ps) lt)
        | inr down ↦
            drop-risen b (p.fall + 1) ps rises.1.1
            ∙ sym (later_early false b p.rise (p.fall ∷ edges_of ps) up ∙ later_early true b p.fall (edges_of ps) down)
      ])
]

-- a toggle leaves those that rise after it
pub same_later : (a b : ℕ) (old new : List Pulse) → a < b → RisesFrom 0 (edges_of old) → RisesFrom 0 (edges_of new)
    → edges_of new ≡ toggled a b (edges_of old) → drop (risen_by b new) new ≡ drop (risen_by b old) old
same_later a b old new lt rises rise_after made =
    edges_of-inj (drop (risen_by b new) new) (drop (risen_by b old) old)
    (drop-risen b 0 new rise_after
    ∙ (ap (later false b) made
    ∙ (later-flipped false b b (flipped a (edges_of old)) (omega arith)
    ∙ (later-flipped true a b (edges_of old) (omega (arith, lt)) ∙ sym (drop-risen b 0 old rises)))))

-- it passes a pulse that ends before it
toggled_past : (a b : ℕ) (p : Pulse) (ps : List Pulse) → a < b → p.rise < p.fall → p.fall < a
    → toggled a b (edges_of (p ∷ ps)) ≡ p.rise ∷ p.fall ∷ toggled a b (edges_of ps)
toggled_past a b p ps lt order below =
    let es = edges_of ps in
    ap (flipped b) (flip_high a p.rise (p.fall ∷ es) (omega (arith, order, below)) ∙ ap (λ (l : List ℕ). p.rise ∷ l) (flip_high a p.fall es below))
    ∙ (flip_high b p.rise (p.fall ∷ flipped a es) (omega (arith, order, below, lt))
    ∙ ap (λ (l : List ℕ). p.rise ∷ l) (flip_high b p.fall (flipped a es) (omega (arith, below, lt))))

take_none : (ps : List Pulse) → take 0 ps ≡ []
take_none [] = refl
take_none (p ∷ ps) = refl

-- and leaves those that end before it
pub same_earlier : (a b low : ℕ) (old new : List Pulse) → a < b → RisesFrom low (edges_of old)
    → edges_of new ≡ toggled a b (edges_of old) → take (ended_before a old) new ≡ take (ended_before a old) old
same_earlier a b low [] new lt rises made = take_none new
same_earlier a b low (p ∷ ps) new lt rises made = elim (cases_lt p.fall a) [
  | inl below ↦
      let count : ended_before a (p ∷ ps) ≡ suc (ended_before a ps) = omega (arith, ended_yes a p ps below) in
      ap (λ n. take n new) count
      ∙ (by_first (λ qs rest. same_earlier a b (p.fall + 1) ps qs lt rises.1.1 rest) new (made ∙ toggled_past a b p ps lt (omega (arith, rises.1.0)) below)
      ∙ ap (λ n. take n (p ∷ ps)) (sym count))
  | inr there ↦
      let count : ended_before a (p ∷ ps) ≡ 0 = omega (arith, ended_no a p ps there, ended_none a (p.fall + 1) ps (omega (arith, there)) rises.1.1) in
      ap (λ n. take n new) count ∙ (take_none new ∙ ap (λ n. take n (p ∷ ps)) (sym count))
] where
  by_first : ((qs : List Pulse) → edges_of qs ≡ toggled a b (edges_of ps) → take (ended_before a ps) qs ≡ take (ended_before a ps) ps)
      → (qs : List Pulse) → edges_of qs ≡ p.rise ∷ p.fall ∷ toggled a b (edges_of ps)
      → take (suc (ended_before a ps)) qs ≡ p ∷ take (ended_before a ps) ps
  by_first others [] is = absurd (cc)
  by_first others (q ∷ qs) is =
      let rise : q.rise ≡ p.rise = cc in
      let fall : q.fall ≡ p.fall = cc in
      let rest : edges_of qs ≡ toggled a b (edges_of ps) = cc in
      let tail = others qs rest in
      (λ j. pulse (rise j) (fall j) ∷ tail j)

-- so its place is a span
pub span_of_toggle : (a b : ℕ) (old new : List Pulse) → a < b → RisesFrom 0 (edges_of old) → RisesFrom 0 (edges_of new)
    → edges_of new ≡ toggled a b (edges_of old)
    → IsSpan (ended_before a old) (risen_by b old - ended_before a old) (risen_by b new - ended_before a old) old new
span_of_toggle a b old new lt rises rise_after made =
    let at = ended_before a old in
    let same = same_below-ended a b old new lt rises made in
    let before = ended_before-le-risen_by a b 0 old (omega (arith, lt)) rises in
    let after = ended_before-le-risen_by a b 0 new (omega (arith, lt)) rise_after in
    let old_is : at + (risen_by b old - at) ≡ risen_by b old = omega (arith, before) in
    let new_is : at + (risen_by b new - at) ≡ risen_by b new = omega (arith, after, same) in
    record {
      there = omega (arith, old_is, risen_by-le b old);
      came = omega (arith, new_is, risen_by-le b new);
      before = same_earlier a b 0 old new lt rises made;
      after = ap (λ n. drop n new) new_is ∙ (same_later a b old new lt rises rise_after made ∙ ap (λ n. drop n old) (sym old_is));
    }
