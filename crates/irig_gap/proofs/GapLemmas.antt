-- The steps of a gap buffer, on the places of its block.
use Rattle.std.proofs.Common.{◌≡◌, ℕ, ◌+◌, ◌-◌, ◌<◌, ◌≤◌, List, ◌++◌, map, length, take, drop, set, get_or, insert, remove, Option, Some, None, slice_get, refl}
use Rattle.std.proofs.Common.{sym, ap, ◌∙◌, ◌⊎◌, inl, inr, arith}
use Rattle.std.proofs.lemmas.List.{map-set, take-map, drop-map, length-map, length-set, length-take, drop-take, drop_all, get_or-take}
use Rattle.std.proofs.lemmas.Bool.{cases_lt}
use Rattle.irig_gap.specs.{Cells.IsFull, Cells.IsRun, Cells.moved, Items.GapView, Items.gap_view, Slots.somes, Slots.live, Slots.IsGap, Slots.view_of}
use Rattle.irig_gap.proofs.Live.{somes-map, read_map, map-insert, map-remove, cut_at, length-live, live-put, live-left, live-right, live-set_left}
use Rattle.irig_gap.proofs.Live.{live-set_right, read_left, read_right, live-of, live-none, live-up, live-down, length-moved, live-left_side, live-right_side}
use Rattle.irig_gap.proofs.Live.{live-taken, live-taken_right, seam-take}
use Rattle.irig_gap.proofs.Copies.{copied, length-copied}

module _ {X : Type 0} where
  -- what the view of a gap buffer says of its fields
  pub record Shows (cs : List (Option X)) (g a : ℕ) (v : GapView X) : Type 0 where
    pub within : (g ≤ a) × (a ≤ length cs)
    pub place : v.place ≡ g
    pub capacity : v.capacity ≡ length cs
    pub items : live cs g a ≡ map Some v.items
    pub count : length v.items + a ≡ g + length cs

  pub shows : (cs : List (Option X)) (g a : ℕ) (v : GapView X) → view_of cs g a ≡ v → IsGap cs g a → Shows cs g a v
  shows cs g a v e h =
      let here : live cs g a ≡ map Some v.items = h.full ∙ ap (λ w. map Some w.items) e in
      record {
        within = h.within;
        place = sym (ap (λ w. w.place) e);
        capacity = sym (ap (λ w. w.capacity) e);
        items = here;
        count = omega (arith, h.within, length-live cs g a h.within.0 h.within.1, ap length here, length-map v.items Some);
      }

  -- the fields ds, k and b hold the view w
  abbrev pub Holds : List (Option X) → ℕ → ℕ → GapView X → Type 0
  Holds ds k b w = IsGap ds k b × (view_of ds k b ≡ w)

  pub holds : (ds : List (Option X)) (k b : ℕ) (w : GapView X) → k ≤ b → b ≤ length ds → live ds k b ≡ map Some w.items → k ≡ w.place → length ds ≡ w.capacity
      → Holds ds k b w
  holds ds k b w p q e i j =
      let same : somes (live ds k b) ≡ w.items = ap somes e ∙ somes-map w.items in
      (record { within = (p, q); full = e ∙ ap (map Some) (sym same) }, λ t. gap_view (same t) (i t) (j t))

  -- the places of a run are full
  pub run_full : (cs : List (Option X)) (n k : ℕ) → IsRun cs 0 n → n ≤ length cs → k < n → IsFull cs (0 + k)
  run_full cs n k run within lt =
      let xs = run.0 in let same : 0 + k ≡ k = omega arith in
      let t = cut_at xs k (omega (arith, ap length run.1, length-map xs Some, length-take n cs)) in (
        t.0,
        ap (λ j. get_or cs j None) same ∙ sym (get_or-take n cs k None lt) ∙ ap (λ ys. get_or ys k None) run.1 ∙ read_map xs k ∙ t.1,
      )

  -- a row that begins with the first n places of another one
  pub take-kept : (ds cs rest : List (Option X)) (n : ℕ) → n ≤ length cs → ds ≡ take n cs ++ rest → take n ds ≡ take n cs
  take-kept ds cs rest n within is = ap (take n) is ∙ seam-take (take n cs) rest n (omega (arith, length-take n cs))

  module _ (cs : List (Option X)) (g a : ℕ) (v : GapView X) (e : view_of cs g a ≡ v) (h : IsGap cs g a) where
    pub put_step : (x : X) → length v.items < v.capacity → (g < length cs)
        × Holds (set cs g (Some x)) (g + 1) a (gap_view (insert v.items v.place x) (v.place + 1) v.capacity)
    put_step x room =
        let s = shows cs g a v e h in let long = length-set cs g (Some x) in let lt : g < a = omega arith in (
          omega arith,
          holds _ _ _ _ (omega arith) (omega arith)
              (live-put cs g a (Some x) lt (omega arith) ∙ ap (λ ys. insert ys g (Some x)) s.items
              ∙ ap (λ k. insert (map Some v.items) k (Some x)) (sym s.place) ∙ sym (map-insert v.items v.place x))
              (omega arith) (omega arith),
        )

    pub left_full : 0 < v.place → IsFull cs (g - 1)
    left_full some =
        let s = shows cs g a v e h in let t = cut_at v.items (g - 1) (omega arith) in (
          t.0,
          sym (read_left cs g a (g - 1) (omega arith) (omega arith) (omega arith)) ∙ ap (λ ys. get_or ys (g - 1) None) s.items ∙ read_map v.items (g - 1)
              ∙ t.1,
        )

    pub left_step : (y : X) → get_or cs (g - 1) None ≡ Some y → 0 < v.place
        → Holds (set cs (a - 1) (Some y)) (g - 1) (a - 1) (gap_view v.items (v.place - 1) v.capacity)
    left_step y is some =
        let s = shows cs g a v e h in let long = length-set cs (a - 1) (Some y) in
        let up : g - 1 + 1 ≡ g = omega arith in let up2 : a - 1 + 1 ≡ a = omega arith in
        holds _ _ _ _ (omega arith) (omega arith)
        (ap (λ z. live (set cs (a - 1) z) (g - 1) (a - 1)) (sym is) ∙ live-left cs (g - 1) (a - 1) (omega arith) (omega arith) ∙ (λ t. live cs (up t) (up2 t))
        ∙ s.items)
        (omega arith) (omega arith)

    pub right_full : v.place < length v.items → IsFull cs a
    right_full some =
        let s = shows cs g a v e h in let t = cut_at v.items g (omega arith) in let none : a + (g - g) ≡ a = omega arith in (
          t.0,
          sym (read_right cs g a g (omega arith) (omega arith) (omega arith) ∙ ap (λ k. get_or cs k None) none) ∙ ap (λ ys. get_or ys g None) s.items
              ∙ read_map v.items g ∙ t.1,
        )

    pub right_step : (y : X) → get_or cs a None ≡ Some y → v.place < length v.items
        → Holds (set cs g (Some y)) (g + 1) (a + 1) (gap_view v.items (v.place + 1) v.capacity)
    right_step y is some =
        let s = shows cs g a v e h in let long = length-set cs g (Some y) in
        holds _ _ _ _ (omega arith) (omega arith) (ap (λ z. live (set cs g z) (g + 1) (a + 1)) (sym is) ∙ live-right cs g a (omega arith) (omega arith)
        ∙ s.items) (omega arith) (omega arith)

    pub taken_step : (y : X) → get_or cs (g - 1) None ≡ Some y → 0 < v.place
        → (Some y ≡ slice_get v.items (v.place - 1)) × Holds cs (g - 1) a (gap_view (remove v.items (v.place - 1)) (v.place - 1) v.capacity)
    taken_step y is some =
        let s = shows cs g a v e h in let up : g - 1 + 1 ≡ g = omega arith in let down : g - 1 ≡ v.place - 1 = omega arith in (
          sym is ∙ sym (read_left cs g a (g - 1) (omega arith) (omega arith) (omega arith)) ∙ ap (λ ys. get_or ys (g - 1) None) s.items
              ∙ read_map v.items (g - 1) ∙ ap (slice_get v.items) down,
          holds _ _ _ _ (omega arith) (omega arith)
              (live-taken cs (g - 1) a (omega arith) (omega arith) ∙ ap (λ k. remove (live cs k a) (g - 1)) up ∙ (λ t. remove (s.items t) (down t))
              ∙ sym (map-remove v.items (v.place - 1)))
              (omega arith) (omega arith),
        )

    pub taken_right_step : (y : X) → get_or cs a None ≡ Some y → v.place < length v.items
        → (Some y ≡ slice_get v.items v.place) × Holds cs g (a + 1) (gap_view (remove v.items v.place) v.place v.capacity)
    taken_right_step y is some =
        let s = shows cs g a v e h in let none : a + (g - g) ≡ a = omega arith in (
          sym is ∙ sym (read_right cs g a g (omega arith) (omega arith) (omega arith) ∙ ap (λ k. get_or cs k None) none) ∙ ap (λ ys. get_or ys g None) s.items
              ∙ read_map v.items g ∙ ap (slice_get v.items) (sym s.place),
          holds _ _ _ _ (omega arith) (omega arith)
              (live-taken_right cs g a (omega arith) (omega arith) ∙ (λ t. remove (s.items t) (sym s.place t)) ∙ sym (map-remove v.items v.place))
              (omega arith) (omega arith),
        )

    -- the slot of an item
    pub slot_left : (i : ℕ) → i < length v.items → i < g → get_or cs i None ≡ slice_get v.items i
    slot_left i p q = let s = shows cs g a v e h in sym (read_left cs g a i q (omega arith) (omega arith)) ∙ ap (λ ys. get_or ys i None) s.items
        ∙ read_map v.items i

    pub slot_right : (i : ℕ) → i < length v.items → g ≤ i → get_or cs (a + (i - g)) None ≡ slice_get v.items i
    slot_right i p q = let s = shows cs g a v e h in sym (read_right cs g a i q (omega arith) (omega arith)) ∙ ap (λ ys. get_or ys i None) s.items
        ∙ read_map v.items i

    pub front_holds : (i : ℕ) → i < v.place → get_or cs i None ≡ slice_get v.items i
    front_holds i lt = let s = shows cs g a v e h in slot_left i (omega arith) (omega arith)

    pub front_full : (i : ℕ) → i < v.place → IsFull cs i
    front_full i lt = let s = shows cs g a v e h in let t = cut_at v.items i (omega arith) in (t.0, front_holds i lt ∙ t.1)

    -- j is the slot of the item i
    abbrev pub IsSlot : ℕ → ℕ → Type 0
    IsSlot i j = (i < g → j ≡ i) × (g ≤ i → j ≡ a + (i - g))

    pub slot_inside : (i j : ℕ) → IsSlot i j → i < length v.items → j < length cs
    slot_inside i j k p = let s = shows cs g a v e h in elim (cases_lt i g)
        [ inl lt ↦ (let q = k.0 lt in omega arith) | inr le ↦ (let q = k.1 le in omega arith) ]

    pub slot_holds : (i j : ℕ) → IsSlot i j → i < length v.items → get_or cs j None ≡ slice_get v.items i
    slot_holds i j k p = elim (cases_lt i g) [
      | inl lt ↦ ap (λ n. get_or cs n None) (k.0 lt) ∙ slot_left i p lt
      | inr le ↦ ap (λ n. get_or cs n None) (k.1 le) ∙ slot_right i p le
    ]

    pub slot_full : (i j : ℕ) → IsSlot i j → i < length v.items → IsFull cs j
    slot_full i j k p = let t = cut_at v.items i p in (t.0, slot_holds i j k p ∙ t.1)

    pub set_step : (i j : ℕ) (x : X) → IsSlot i j → i < length v.items → Holds (set cs j (Some x)) g a (gap_view (set v.items i x) v.place v.capacity)
    set_step i j x k p = let s = shows cs g a v e h in let long = length-set cs j (Some x) in
        let there : live (set cs j (Some x)) g a ≡ set (live cs g a) i (Some x) = elim (cases_lt i g) [
          | inl lt ↦ ap (λ n. live (set cs n (Some x)) g a) (k.0 lt) ∙ live-set_left cs g a i (Some x) lt (omega arith) (omega arith)
          | inr le ↦ ap (λ n. live (set cs n (Some x)) g a) (k.1 le) ∙ live-set_right cs g a i (Some x) le (omega arith) (omega arith)
        ] in
        holds _ _ _ _ (omega arith) (omega arith) (there ∙ ap (λ ys. set ys i (Some x)) s.items ∙ sym (map-set Some v.items i x)) (omega arith) (omega arith)

    pub all_left : (k : ℕ) → k < g → IsFull cs (0 + k)
    all_left k lt =
        let s = shows cs g a v e h in let t = cut_at v.items k (omega arith) in let same : 0 + k ≡ k = omega arith in
        (t.0, ap (λ j. get_or cs j None) same ∙ slot_left k (omega arith) lt ∙ t.1)

    pub all_right : (m k : ℕ) → m ≡ length cs - a → k < m → IsFull cs (a + k)
    all_right m k is lt =
        let s = shows cs g a v e h in let t = cut_at v.items (g + k) (omega arith) in let same : a + k ≡ a + (g + k - g) = omega arith in
        (t.0, ap (λ j. get_or cs j None) same ∙ slot_right (g + k) (omega arith) (omega arith) ∙ t.1)

    -- the places left of the gap, copied to the front of n places, leave them as many
    pub length-left : (r c1 : List (Option X)) (n : ℕ) → length r ≡ n → v.capacity ≤ n → c1 ≡ take 0 r ++ (take g (drop 0 cs) ++ drop (0 + g) r)
        → length c1 ≡ n
    length-left r c1 n all long is = let s = shows cs g a v e h in length-copied cs r c1 0 0 g (omega arith) (omega arith) is ∙ all

    -- and those right of it to their end
    pub copied_sides : (r c1 c2 : List (Option X)) (b m n : ℕ) → length r ≡ n → v.capacity ≤ n → m ≡ length cs - a → b ≡ n - m
        → c1 ≡ take 0 r ++ (take g (drop 0 cs) ++ drop (0 + g) r) → c2 ≡ take b c1 ++ (take m (drop a cs) ++ drop (b + m) c1)
        → (live c2 v.place b ≡ map Some v.items) × (length c2 ≡ n)
    copied_sides r c1 c2 b m n all long is at e1 e2 =
        let s = shows cs g a v e h in let k = copied cs r c1 c2 g a b m n s.within.0 s.within.1 is at (omega arith) all e1 e2 in
        (ap (λ j. live c2 j b) s.place ∙ live-of c2 b cs g a k.0 k.1 ∙ s.items, k.2)

    -- the same items in n places, with the gap up to b
    pub grown : (ds : List (Option X)) (b n : ℕ) → b + length v.items ≡ v.place + n → v.capacity ≤ n → length ds ≡ n → live ds v.place b ≡ map Some v.items
        → Holds ds g b (gap_view v.items v.place n)
    grown ds b n end more long is = let s = shows cs g a v e h in
        holds _ _ _ _ (omega arith) (omega arith) (ap (λ j. live ds j b) (sym s.place) ∙ is) (sym s.place) long

    -- the same items in n places, as many as wanted or as before, in a row that begins with them
    pub lengthened : (ds : List (Option X)) (n wanted : ℕ) → v.place ≡ length v.items → v.capacity < wanted → (n ≡ wanted) ⊎ (n ≡ v.capacity) → length ds ≡ n
        → take g ds ≡ take g cs → Holds ds g n (gap_view v.items v.place n)
    lengthened ds n wanted end more either long same =
        let s = shows cs g a v e h in let room : v.capacity ≤ n = elim either [ inl is ↦ omega (arith, is) | inr is ↦ omega (arith, is) ] in
        holds _ _ _ _ (omega arith) (omega arith)
        (live-of ds n cs g a same (drop_all n ds (omega arith) ∙ sym (drop_all a cs (omega arith))) ∙ s.items) (sym s.place) long

    -- if no place is free, the gap is anywhere
    pub anywhere_step : (p : ℕ) → g ≡ a → p ≤ length v.items → Holds cs p p (gap_view v.items p v.capacity)
    anywhere_step p same within = let s = shows cs g a v e h in
        holds _ _ _ _ (omega arith) (omega arith) (live-none cs p ∙ sym (ap (live cs g) (sym same) ∙ live-none cs g) ∙ s.items) refl (sym s.capacity)

    pub run_left : (low n : ℕ) → low + n ≡ g → IsRun cs low n
    run_left low n is =
        let s = shows cs g a v e h in
        let side : take g cs ≡ map Some (take g v.items) = sym (live-left_side cs g a (omega arith)) ∙ ap (take g) s.items ∙ take-map Some g v.items in
        (drop low (take g v.items), sym (drop-take low n cs) ∙ ap (λ k. drop low (take k cs)) is ∙ ap (drop low) side ∙ drop-map Some low (take g v.items))

    pub run_right : (n : ℕ) → IsRun cs a n
    run_right n =
        let s = shows cs g a v e h in
        let side : drop a cs ≡ map Some (drop g v.items) = sym (live-right_side cs g a (omega arith)) ∙ ap (drop g) s.items ∙ drop-map Some g v.items in
        (take n (drop g v.items), ap (take n) side ∙ take-map Some n (drop g v.items))

    pub up_step : (low high n : ℕ) → low + n ≡ g → high + n ≡ a → g ≤ high
        → (length (moved cs low high n) ≡ length cs) × Holds (moved cs low high n) low high (gap_view v.items low v.capacity)
    up_step low high n lg ha apart =
        let s = shows cs g a v e h in let long = length-moved cs low high n (omega arith) (omega arith) in (
          long,
          holds _ _ _ _ (omega arith) (omega arith) (live-up cs low high n (omega arith) (omega arith) ∙ (λ t. live cs (lg t) (ha t)) ∙ s.items) refl
              (long ∙ sym s.capacity),
        )

    pub down_step : (n : ℕ) → g + n ≤ a → a + n ≤ length cs
        → (length (moved cs a g n) ≡ length cs) × Holds (moved cs a g n) (g + n) (a + n) (gap_view v.items (g + n) v.capacity)
    down_step n apart inside =
        let s = shows cs g a v e h in let long = length-moved cs a g n inside (omega arith) in (
          long,
          holds _ _ _ _ (omega arith) (omega arith) (live-down cs g a n apart inside ∙ s.items) refl (long ∙ sym s.capacity),
        )
