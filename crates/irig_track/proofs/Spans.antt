-- Spans, and where a toggle begins and ends.
use Rattle.std.proofs.Common.{◌≡◌, ℕ, suc, ◌+◌, ◌-◌, ◌<◌, ◌≤◌, List, [], ◌∷◌, ◌++◌, length, take, drop, refl, sym, ap, ◌∙◌, subst, arith, inl, inr}
use Rattle.std.proofs.Common.{append_assoc, length-append}
use Rattle.std.proofs.lemmas.{Bool.cases_lt, List.take-append-drop, List.length-take-le}
use Rattle.std.proofs.Math.Seq.{take-append_seam, drop-append_seam, drop-append-add}
use Rattle.irig_gap.specs.Items.{GapView, gap_view}
use Rattle.irig_recording.specs.{declared.pulse.Pulse.Pulse, Recording.RisesFrom}
use Rattle.irig_track.specs.Splices.{spliced, piece, IsSpan, risen_by, ended_before}
use Rattle.irig_track.specs.{Edges.Under, Edges.edges_of, Toggles.toggled, Sides.left_of, Sides.right_of, Sides.ReachesFrom, Sides.RiseUpTo, Sides.Stays}
use Rattle.irig_track.proofs.Searches.{risen_yes, risen_none, risen_by-le, ended_yes, ended_no, ended_none}
use Rattle.irig_track.proofs.{Laws.parts, Turns.RiseUpTo-append, Below.same_below-ended, Carried.length-piece}

span_parts : (xs gone made ys : List Pulse) → IsSpan (length xs) (length gone) (length made) (xs ++ (gone ++ ys)) (xs ++ (made ++ ys))
span_parts xs gone made ys = record {
  there = omega (arith, length-append xs (gone ++ ys), length-append gone ys);
  came = omega (arith, length-append xs (made ++ ys), length-append made ys);
  before = take-append_seam xs (made ++ ys) ∙ sym (take-append_seam xs (gone ++ ys));
  after = drop-append-add xs (made ++ ys) (length made) ∙ drop-append_seam made ys
      ∙ sym (drop-append-add xs (gone ++ ys) (length gone) ∙ drop-append_seam gone ys);
}

pub span_of : (at n m : ℕ) (old new xs gone made ys : List Pulse) → length xs ≡ at → length gone ≡ n → length made ≡ m → xs ++ (gone ++ ys) ≡ old
    → xs ++ (made ++ ys) ≡ new → IsSpan at n m old new
span_of at n m old new xs gone made ys a b c d e =
    subst (λ k. IsSpan k n m old new) a (subst (λ k. IsSpan (length xs) k m old new) b (subst (λ k. IsSpan (length xs) (length gone) k old new) c
    (subst (λ ps. IsSpan (length xs) (length gone) (length made) ps new) d
    (subst (λ ps. IsSpan (length xs) (length gone) (length made) (xs ++ (gone ++ ys)) ps) e (span_parts xs gone made ys)))))

pub span_spliced : (at count m : ℕ) (put ps new : List Pulse) → at + count ≤ length ps → length put ≡ m → new ≡ spliced at count put ps
    → IsSpan at count m ps new
span_spliced at count m put ps new le long e = span_of at count m ps new (take at ps) (piece at count ps) put (drop (at + count) ps)
    (length-take-le at ps (omega arith)) (length-piece ps at count le) long (parts at count ps) (sym e)

risen_by-append : (t : ℕ) (xs ys : List Pulse) → risen_by t (xs ++ ys) ≡ risen_by t xs + risen_by t ys
risen_by-append t [] ys = omega arith
risen_by-append t (x ∷ xs) ys = omega (arith, risen_by-append t xs ys)

risen_all : (t : ℕ) (ps : List Pulse) → RiseUpTo t ps → risen_by t ps ≡ length ps
risen_all t [] h = refl
risen_all t (p ∷ ps) h = omega (arith, risen_yes t p ps h.0, risen_all t ps h.1)

under_all : (a b : ℕ) (ps : List Pulse) → a ≤ b → Under a (edges_of ps) → RiseUpTo b ps
under_all a b [] le h = tt
under_all a b (p ∷ ps) le h = (omega (arith, h.0), under_all a b ps le h.1.1)

ended_suc : (t : ℕ) (p : Pulse) (ps : List Pulse) → p.fall < t → ended_before t (p ∷ ps) ≡ suc (ended_before t ps)
ended_suc t p ps h = omega (arith, ended_yes t p ps h)

ended_zero : (t low : ℕ) (p : Pulse) (ps : List Pulse) → RisesFrom low (edges_of (p ∷ ps)) → t ≤ p.fall → ended_before t (p ∷ ps) ≡ 0
ended_zero t low p ps h le = omega (arith, ended_no t p ps le, ended_none t (p.fall + 1) ps (omega arith) h.1.1)

pub under_ended : (a low : ℕ) (ps : List Pulse) → RisesFrom low (edges_of ps) → Under a (edges_of (take (ended_before a ps) ps))
under_ended a low [] h = tt
under_ended a low (p ∷ ps) h = elim (cases_lt p.fall a) [
  | inl lt ↦ subst (λ k. Under a (edges_of (take k (p ∷ ps)))) (sym (ended_suc a p ps lt)) (omega (arith, h.1.0), (lt, under_ended a (p.fall + 1) ps h.1.1))
  | inr le ↦ subst (λ k. Under a (edges_of (take k (p ∷ ps)))) (sym (ended_zero a low p ps h le)) tt
]

pub reaches_ended : (a low : ℕ) (ps : List Pulse) → RisesFrom low (edges_of ps) → ReachesFrom a (drop (ended_before a ps) ps)
reaches_ended a low [] h = tt
reaches_ended a low (p ∷ ps) h = elim (cases_lt p.fall a) [
  | inl lt ↦ subst (λ k. ReachesFrom a (drop k (p ∷ ps))) (sym (ended_suc a p ps lt)) (reaches_ended a (p.fall + 1) ps h.1.1)
  | inr le ↦ subst (λ k. ReachesFrom a (drop k (p ∷ ps))) (sym (ended_zero a low p ps h le)) le
]

pub ended_before-le-risen_by : (a b low : ℕ) (ps : List Pulse) → a ≤ b → RisesFrom low (edges_of ps) → ended_before a ps ≤ risen_by b ps
ended_before-le-risen_by a b low [] le h = omega arith
ended_before-le-risen_by a b low (p ∷ ps) le h = elim (cases_lt p.fall a) [
  | inl lt ↦ omega (arith, ended_suc a p ps lt, risen_yes b p ps (omega (arith, h.1.0)), ended_before-le-risen_by a b (p.fall + 1) ps le h.1.1)
  | inr ge ↦ omega (arith, ended_zero a low p ps h ge)
]

-- how many pulses a toggle removed
pub gone_count : (a b : ℕ) (u v : GapView Pulse) (s : Stays b u v) → a ≤ b → u.place ≤ length u.items → Under a (edges_of (left_of u))
    → RisesFrom (b + 1) (edges_of (right_of v)) → risen_by b u.items ≡ u.place + length s.gone
gone_count a b u v s le inside under late =
    let r : drop u.place u.items ≡ s.gone ++ right_of v = s.right in
    omega (
      arith,
      ap (risen_by b) (sym (take-append-drop u.place u.items)),
      risen_by-append b (left_of u) (right_of u),
      ap (risen_by b) r,
      risen_by-append b s.gone (right_of v),
      risen_all b (left_of u) (under_all a b (left_of u) le under),
      length-take-le u.place u.items inside,
      risen_all b s.gone s.early,
      risen_none b (b + 1) (right_of v) (omega arith) late,
    )

pub made_count : (b : ℕ) (u v : GapView Pulse) (s : Stays b u v) → u.place ≤ length u.items → v.place ≤ length v.items → v.place ≡ u.place + length s.made
made_count b u v s p q = let l : take v.place v.items ≡ take u.place u.items ++ s.made = s.left in
    omega (arith, ap length l, length-append (take u.place u.items) s.made, length-take-le u.place u.items p, length-take-le v.place v.items q)

pub span_toggled : (a b n m : ℕ) (u v : GapView Pulse) → Stays b u v → a ≤ b → u.place ≤ length u.items → v.place ≤ length v.items
    → Under a (edges_of (left_of u)) → RisesFrom (b + 1) (edges_of (right_of v))
    → n ≡ risen_by b u.items - u.place → m ≡ v.place - u.place → IsSpan u.place n m u.items v.items
span_toggled a b n m u v s le p q under late ne me =
    let l : take v.place v.items ≡ take u.place u.items ++ s.made = s.left in
    let r : drop u.place u.items ≡ s.gone ++ right_of v = s.right in
    let gone = gone_count a b u v s le p under late in
    let made = made_count b u v s p q in
    span_of u.place n m u.items v.items (left_of u) s.gone s.made (right_of v) (length-take-le u.place u.items p) (omega arith) (omega arith)
    (ap (λ ps. left_of u ++ ps) (sym r) ∙ take-append-drop u.place u.items)
    (sym (append_assoc (left_of u) s.made (right_of v)) ∙ ap (λ ps. ps ++ right_of v) (sym l) ∙ take-append-drop v.place v.items)

pub ended_before-le : (a low : ℕ) (ps : List Pulse) → RisesFrom low (edges_of ps) → ended_before a ps ≤ length ps
ended_before-le a low ps h = omega (arith, ended_before-le-risen_by a a low ps (omega arith) h, risen_by-le a ps)

-- how many pulses a toggle left
came_count : (a b : ℕ) (u v : GapView Pulse) (s : Stays b u v) → a ≤ b → u.place ≤ length u.items → v.place ≤ length v.items → Under a (edges_of (left_of u))
    → RisesFrom (b + 1) (edges_of (right_of v)) → risen_by b v.items ≡ v.place
came_count a b u v s le p q under late =
    let early : RiseUpTo b (left_of v) = subst (RiseUpTo b) (sym s.left) (RiseUpTo-append b (left_of u) s.made (under_all a b (left_of u) le under) s.late) in
    omega (
      arith,
      ap (risen_by b) (sym (take-append-drop v.place v.items)),
      risen_by-append b (left_of v) (right_of v),
      risen_all b (left_of v) early,
      length-take-le v.place v.items q,
      risen_none b (b + 1) (right_of v) (omega arith) late,
    )

-- what a toggle's Span says
pub record ToggleSpan (a b at before end : ℕ) (old new : List Pulse) : Type 0 where
  pub old_order : at ≤ before
  pub new_order : at ≤ end
  pub span : IsSpan at (before - at) (end - at) old new
  pub ended : at ≡ ended_before a new
  pub risen : at + (end - at) ≡ risen_by b new

pub toggle_spanned : (a b at before end : ℕ) (g u v : GapView Pulse) → a < b → RisesFrom 0 (edges_of g.items) → at ≡ ended_before a g.items
    → before ≡ risen_by b g.items
    → u ≡ gap_view g.items at g.capacity → Stays b u v → RisesFrom (b + 1) (edges_of (right_of v)) → end ≡ v.place → v.place ≤ length v.items
    → edges_of v.items ≡ toggled a b (edges_of g.items)
    → ToggleSpan a b at before end g.items v.items
toggle_spanned a b at before end g u v lt h ae be ue s0 late ee inside made_edges =
    let w : GapView Pulse = gap_view g.items at g.capacity in
    let s : Stays b w v = subst (λ (x : GapView Pulse). Stays b x v) ue s0 in
    let order : ended_before a g.items ≤ risen_by b g.items = ended_before-le-risen_by a b 0 g.items (omega arith) h in
    let short = risen_by-le b g.items in
    let under : Under a (edges_of (take at g.items)) = subst (λ k. Under a (edges_of (take k g.items))) (sym ae) (under_ended a 0 g.items h) in
    let p : at ≤ length g.items = omega arith in
    let made : v.place ≡ at + length s.made = made_count b w v s p inside in
    let came : risen_by b v.items ≡ v.place = came_count a b w v s (omega arith) p inside under late in
    record {
      old_order = omega arith;
      new_order = omega arith;
      span = span_toggled a b (before - at) (end - at) w v s (omega arith) p inside under late (ap (λ k. k - at) be) (ap (λ k. k - at) ee);
      ended = ae ∙ same_below-ended a b g.items v.items lt h made_edges;
      risen = omega arith;
    }
