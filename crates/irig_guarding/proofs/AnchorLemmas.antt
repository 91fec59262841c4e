-- Anchors of a frame, element by element.
use Rattle.std.proofs.Common.{◌≡◌, ◌+◌, ◌-◌, ◌*◌, ◌<◌, ◌≤◌, ◌∙◌, ℕ, zero, suc, Bool, true, false, List, Option, Some, None, ap, arith, inl, inr, refl, subst, sym}
use Rattle.std.specs.Prelude.{◌⊎◌, IfSome, if◌then◌else◌}
use Rattle.std.proofs.lemmas.Bool.{cases_lt}
use Rattle.irig_codes.specs.Format.{FormatView}
use Rattle.irig_recording.specs.declared.pulse.Pulse.{Pulse}
use Rattle.irig_safety.specs.Anchors.{anchors_among, is_anchored, last_anchor, next_anchor}
use Rattle.irig_safety.specs.{Placed.is_held, Placed.is_placed, Calendar.periods, declared.lines.Anchor.Anchor, declared.shown.Shown.Shown}
use Rattle.irig_safety.specs.declared.witnesses.Witnesses.{Witnesses}
use Rattle.irig_safety.specs.Lines.{from_after, from_before, is_counted}

module _ (recorded pulses : List Pulse) (marker : ℕ) where
  -- the first anchor from an element on that is one
  pub next_here : (j : ℕ) → j < 100 → is_anchored recorded pulses marker j ≡ true → next_anchor recorded pulses marker (100 - j) j ≡ Some j
  next_here j few on =
      let more : 100 - j ≡ suc (100 - (j + 1)) = omega (arith, few) in
      ap (λ n. next_anchor recorded pulses marker n j) more ∙ (rw on refl)

  -- and that is none
  pub next_over : (j : ℕ) → j < 100 → is_anchored recorded pulses marker j ≡ false
      → next_anchor recorded pulses marker (100 - j) j ≡ next_anchor recorded pulses marker (100 - (j + 1)) (j + 1)
  next_over j few off =
      let more : 100 - j ≡ suc (100 - (j + 1)) = omega (arith, few) in
      ap (λ n. next_anchor recorded pulses marker n j) more ∙ (rw off refl)

  pub next_past : (j : ℕ) → 100 ≤ j → next_anchor recorded pulses marker (100 - j) j ≡ None
  next_past j past = let none : 100 - j ≡ 0 = omega (arith, past) in ap (λ n. next_anchor recorded pulses marker n j) none

  from_if : (c : Bool) (j i : ℕ) (rest : Option ℕ) → (if c then Some j else rest) ≡ Some i → (rest ≡ Some i → j ≤ i) → j ≤ i
  from_if true j i rest e h = let both : Some j ≡ Some i = e in let same : j ≡ i = cc in omega (arith, same)
  from_if false j i rest e h = h e

  next_from : (n j i : ℕ) → next_anchor recorded pulses marker n j ≡ Some i → j ≤ i
  next_from zero j i e = let bad : None ≡ Some i = e in absurd (cc)
  next_from (suc n) j i e =
      from_if (is_anchored recorded pulses marker j) j i (next_anchor recorded pulses marker n (j + 1)) e
      (λ k. let later = next_from n (j + 1) i k in omega (arith, later))

  -- an element is an anchor if it is the first from itself on, and else it is none
  pub is_next : (j : ℕ) → j < 100 → next_anchor recorded pulses marker (100 - j) j ≡ Some j → is_anchored recorded pulses marker j ≡ true
  is_next j few e = go (is_anchored recorded pulses marker j) refl
    where
      go : (b : Bool) → is_anchored recorded pulses marker j ≡ b → is_anchored recorded pulses marker j ≡ true
      go true on = on
      go false off = let past = next_from (100 - (j + 1)) (j + 1) j (sym (next_over j few off) ∙ e) in absurd (omega (arith, past))

  pub not_next : (j : ℕ) → j < 100 → (next_anchor recorded pulses marker (100 - j) j ≡ Some j → ⊥) → is_anchored recorded pulses marker j ≡ false
  not_next j few other = go (is_anchored recorded pulses marker j) refl
    where
      go : (b : Bool) → is_anchored recorded pulses marker j ≡ b → is_anchored recorded pulses marker j ≡ false
      go true on = absurd (other (next_here j few on))
      go false off = off

  pub last_here : (j : ℕ) → is_anchored recorded pulses marker j ≡ true → last_anchor recorded pulses marker (j + 1) ≡ Some j
  last_here j on = let one : j + 1 ≡ suc j = omega arith in ap (last_anchor recorded pulses marker) one ∙ (rw on refl)

  pub last_over : (j : ℕ) → is_anchored recorded pulses marker j ≡ false → last_anchor recorded pulses marker (j + 1) ≡ last_anchor recorded pulses marker j
  last_over j off = let one : j + 1 ≡ suc j = omega arith in ap (last_anchor recorded pulses marker) one ∙ (rw off refl)

  pub among_more : (j : ℕ) → is_anchored recorded pulses marker j ≡ true
      → anchors_among recorded pulses marker (j + 1) ≡ anchors_among recorded pulses marker j + 1
  among_more j on = let one : j + 1 ≡ suc j = omega arith in ap (anchors_among recorded pulses marker) one ∙ (rw on refl)

  pub among_same : (j : ℕ) → is_anchored recorded pulses marker j ≡ false
      → anchors_among recorded pulses marker (j + 1) ≡ anchors_among recorded pulses marker j
  among_same j off =
      let one : j + 1 ≡ suc j = omega arith in
      let none : anchors_among recorded pulses marker j + 0 ≡ anchors_among recorded pulses marker j = omega arith in
      ap (anchors_among recorded pulses marker) one ∙ ((rw off refl) ∙ none)

-- the elements before one are placed, and what is next to it is known
pub record IsPlacedUpTo (f : FormatView) (recorded pulses : List Pulse) (marker : ℕ) (w : Witnesses) (y : Shown) (n : ℕ) (last next : Option ℕ) : Type 0 where
  pub placed : (j : ℕ) → j < n → is_placed f recorded pulses marker w y j ≡ true
  pub last_is : last ≡ last_anchor recorded pulses marker n
  pub next_is : next ≡ next_anchor recorded pulses marker (100 - n) n
  pub few : IfSome next (λ k. k < 100)

-- the next anchor is this element, or another one or none
pub at_next : (f : FormatView) (recorded pulses : List Pulse) (marker : ℕ) (w : Witnesses) (y : Shown) (n : ℕ) (last next : Option ℕ) (r : Bool) → n < 100
    → (r ≡ true → next ≡ Some n) → r ≡ true → IsPlacedUpTo f recorded pulses marker w y n last next → is_anchored recorded pulses marker n ≡ true
at_next f recorded pulses marker w y n last next r few at t h = is_next recorded pulses marker n few (sym h.next_is ∙ at t)

pub not_at_next : (f : FormatView) (recorded pulses : List Pulse) (marker : ℕ) (w : Witnesses) (y : Shown) (n : ℕ) (last next : Option ℕ) (r : Bool) → n < 100
    → (next ≡ Some n → r ≡ true) → r ≡ false → IsPlacedUpTo f recorded pulses marker w y n last next → is_anchored recorded pulses marker n ≡ false
not_at_next f recorded pulses marker w y n last next r few at off h =
    not_next recorded pulses marker n few (λ e. let bad : true ≡ false = sym (at (h.next_is ∙ e)) ∙ off in cc)

split : (j k : ℕ) → j < k + 1 → (j < k) ⊎ (j ≡ k)
split j k less = elim (cases_lt j k) [
  | inl before ↦ inl before
  | inr from ↦ inr (omega (arith, less, from))
]

module _ (f : FormatView) (recorded pulses : List Pulse) (marker : ℕ) (w : Witnesses) (y : Shown) where
  more : (n : ℕ) → ((j : ℕ) → j < n → is_placed f recorded pulses marker w y j ≡ true) → is_placed f recorded pulses marker w y n ≡ true
      → (j : ℕ) → j < n + 1 → is_placed f recorded pulses marker w y j ≡ true
  more n each one j less = elim (split j n less) [
    | inl before ↦ each j before
    | inr same ↦ ap (is_placed f recorded pulses marker w y) same ∙ one
  ]

  pub placed_anchor : (n : ℕ) (last next new : Option ℕ) → is_anchored recorded pulses marker n ≡ true
      → new ≡ next_anchor recorded pulses marker (100 - (n + 1)) (n + 1) → IfSome new (λ k. k < 100)
      → IsPlacedUpTo f recorded pulses marker w y n last next → IsPlacedUpTo f recorded pulses marker w y (n + 1) (Some n) new
  placed_anchor n last next new on is few h = record {
    placed = more n h.placed (rw on refl);
    last_is = sym (last_here recorded pulses marker n on);
    next_is = is;
    few = few;
  }

  pub placed_by : (n : ℕ) (last next : Option ℕ) → is_anchored recorded pulses marker n ≡ false → IsPlacedUpTo f recorded pulses marker w y n last next
      → is_placed f recorded pulses marker w y n ≡ is_held f pulses marker w y n last next
  placed_by n last next off h =
      (rw off refl) ∙ (λ i. is_held f pulses marker w y n (sym h.last_is i) (sym h.next_is i))

  pub placed_held : (n : ℕ) (last next : Option ℕ) → n < 100 → is_anchored recorded pulses marker n ≡ false → is_held f pulses marker w y n last next ≡ true
      → IsPlacedUpTo f recorded pulses marker w y n last next → IsPlacedUpTo f recorded pulses marker w y (n + 1) last next
  placed_held n last next less off held h = record {
    placed = more n h.placed (placed_by n last next off h ∙ held);
    last_is = h.last_is ∙ sym (last_over recorded pulses marker n off);
    next_is = h.next_is ∙ next_over recorded pulses marker n less off;
    few = h.few;
  }

  pub placed_not : (n : ℕ) (last next : Option ℕ) → n < 100 → is_anchored recorded pulses marker n ≡ false → is_held f pulses marker w y n last next ≡ false
      → IsPlacedUpTo f recorded pulses marker w y n last next → ((j : ℕ) → j < 100 → is_placed f recorded pulses marker w y j ≡ true) → ⊥
  placed_not n last next less off held h each =
      let bad : false ≡ true = sym held ∙ (sym (placed_by n last next off h) ∙ each n less) in cc

  pub placed_none : (next : Option ℕ) → next ≡ next_anchor recorded pulses marker 100 0 → IfSome next (λ k. k < 100)
      → IsPlacedUpTo f recorded pulses marker w y 0 None next
  placed_none next is few = record { placed = λ j less. absurd (omega (arith, less)); last_is = refl; next_is = is; few = few }

  pub placed_as : (n : ℕ) (last next one other : Option ℕ) → one ≡ last → other ≡ next → IsPlacedUpTo f recorded pulses marker w y n last next
      → IsPlacedUpTo f recorded pulses marker w y n one other
  placed_as n last next one other p q h = subst (λ (T : Type 0). T) (λ i. IsPlacedUpTo f recorded pulses marker w y n (sym p i) (sym q i)) h

-- the markers next to a frame as they are seen from a later element of it
some_is : (c : Bool) (a b : Anchor) → Some a ≡ (if c then Some b else None) → (c ≡ true) × (a ≡ b)
some_is true a b e = (refl, cc)
some_is false a b e = let bad : Some a ≡ None = e in absurd (cc)

pub later_before : (f : FormatView) (w : Witnesses) (y : Shown) (j : ℕ) (o : Option Shown) (a : Anchor) → Some a ≡ from_before f w y 0 o
    → Some (record { steps = a.steps + j; rise = a.rise }) ≡ from_before f w y j o
later_before f w y j None a e = let bad : Some a ≡ None = e in absurd (cc)
later_before f w y j (Some b) a e =
    let n = periods f b y in
    let is = some_is (is_counted f w y b y) a (record { steps = 100 * n + 0; rise = b.rise }) e in
    let steps : a.steps + j ≡ 100 * n + j = omega (arith, ap (λ (x : Anchor). x.steps) is.1) in
    let same : record { steps = a.steps + j; rise = a.rise } ≡ record { steps = 100 * n + j; rise = b.rise } =
    λ i. record { steps = steps i; rise = (is.1 i).rise } in
    ap (λ (x : Anchor). Some x) same ∙ sym (ap (λ c. if c then Some (record { steps = 100 * n + j; rise = b.rise }) else None) is.0)

pub later_after : (f : FormatView) (w : Witnesses) (y : Shown) (j : ℕ) (o : Option Shown) (a : Anchor) → Some a ≡ from_after f w y 0 o
    → Some (record { steps = a.steps - j; rise = a.rise }) ≡ from_after f w y j o
later_after f w y j None a e = let bad : Some a ≡ None = e in absurd (cc)
later_after f w y j (Some b) a e =
    let n = periods f y b in
    let is = some_is (is_counted f w y y b) a (record { steps = 100 * n - 0; rise = b.rise }) e in
    let steps : a.steps - j ≡ 100 * n - j = omega (arith, ap (λ (x : Anchor). x.steps) is.1) in
    let same : record { steps = a.steps - j; rise = a.rise } ≡ record { steps = 100 * n - j; rise = b.rise } =
    λ i. record { steps = steps i; rise = (is.1 i).rise } in
    ap (λ (x : Anchor). Some x) same ∙ sym (ap (λ c. if c then Some (record { steps = 100 * n - j; rise = b.rise }) else None) is.0)

none_is : (c : Bool) (a b : Anchor) → None ≡ (if c then Some a else None) → None ≡ (if c then Some b else None)
none_is true a b e = let bad : None ≡ Some a = e in absurd (cc)
none_is false a b e = refl

pub none_before : (f : FormatView) (w : Witnesses) (y : Shown) (j : ℕ) (o : Option Shown) → None ≡ from_before f w y 0 o → None ≡ from_before f w y j o
none_before f w y j None e = refl
none_before f w y j (Some b) e = none_is (is_counted f w y b y) _ _ e

pub none_after : (f : FormatView) (w : Witnesses) (y : Shown) (j : ℕ) (o : Option Shown) → None ≡ from_after f w y 0 o → None ≡ from_after f w y j o
none_after f w y j None e = refl
none_after f w y j (Some b) e = none_is (is_counted f w y y b) _ _ e
