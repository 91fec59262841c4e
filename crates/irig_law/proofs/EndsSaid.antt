-- What a list of an end of the recording says of a pulse is what the law says.
use Rattle.std.proofs.Common.{◌≡◌, ◌⊎◌, inl, inr, ◌<◌, ◌≤◌, ◌+◌, ◌-◌, ◌==◌, ℕ, List, Bool, true, false, length, slice_get, get_or, Option, Some, None, arith, sym, ap, ◌∙◌, subst}
use Rattle.std.specs.Prelude.{◌↔◌, ◌&&◌, ◌||◌, min, nat_le, nat_lt, if◌then◌else◌}
use Rattle.std.proofs.lemmas.Bool.{and_from, and_parts, cases_eq, cases_lt, cond-false, cond-true, cond_both, eq-eqb, eqb-true, le-leb, leb-true, lt-leb, lt-ltb, ltb-true, or_cases, or_left, or_right}
use Rattle.std.proofs.lemmas.Option.{none-some, same_Some, slice_get-get_or, slice_get_within}
use Rattle.irig_codes.specs.Format.{FormatView}
use Rattle.irig_recording.specs.declared.pulse.Pulse.{Pulse}
use Rattle.irig_times.specs.TimedElements.{time_elements}
use Rattle.irig_law.specs.{Clocks.end_slack, Denials.seen_after, Denials.seen_before, Elements.element_after, Elements.element_before}
use Rattle.irig_law.specs.Seens.{AreInStep, begin_of, end_of}
use Rattle.irig_law.specs.Ends.{IsAfterLast, IsBeforeFirst, IsInStepAfter, IsInStepBefore, IsSureAfter, IsSureBefore}
use Rattle.irig_law.specs.Seens.{SeenAfter, SeenBefore}
use Rattle.irig_law.specs.declared.{frame.Frame.Frame, names.Seen.Seen, point.Point.Point}
use Rattle.irig_law.specs.declared.names.Seen.TheVariants.{Named}

module _ (f : FormatView) (ps : List Pulse) (a : Frame) (after : List Seen) (steps : ℕ) (none : Bool)
    (seen : SeenAfter f ps a (end_slack ps a) after) (long : length after ≡ min (length ps - a.marker) 200) (stepped : AreInStep after steps)
    (denied : (none ≡ true) ↔ IsSureAfter f ps a) where
  to-steps : (k : ℕ) → a.marker ≤ k → k < length ps → k < a.marker + 200 → k - a.marker < steps → IsInStepAfter f ps a k
  to-steps k from to few less j low high =
      same_Some (seen_after f ps a (end_slack ps a) j) (Named (j - a.marker))
      (sym (seen.each j (omega (arith, low, high, to, few, long))) ∙ stepped.each (j - a.marker) (omega (arith, low, high, less)))

  from-steps : (k : ℕ) → a.marker ≤ k → k < length ps → k < a.marker + 200 → IsInStepAfter f ps a k → k - a.marker < steps
  from-steps k from to few all = elim (cases_lt (k - a.marker) steps) [
    | inl less ↦ less
    | inr far ↦
        let place : a.marker + steps - a.marker ≡ steps = omega arith in
        let here = seen.each (a.marker + steps) (omega (arith, place, far, from, to, few, long)) in
        let is = all (a.marker + steps) (omega arith) (omega (arith, far, from)) in
        absurd (stepped.last (subst (λ (i : ℕ). slice_get after i ≡ Some (Named i)) place (here ∙ ap Some is)))
  ]

  abbrev rest-of : ℕ → Bool
  rest-of k = none && (nat_lt k (a.marker + 200) && (nat_lt k (a.marker + 100) || nat_lt (k - a.marker) steps))

  to-last : (k : ℕ) (x : Point) → a.marker ≤ k → k < length ps → end_of f a none steps k ≡ Some x → IsAfterLast f ps a k x
  to-last k x from to is = cond_both ((k == a.marker) || rest-of k) (element_after f a (k - a.marker)) None (λ o. o ≡ Some x → IsAfterLast f ps a k x)
      (λ on h. elim (or_cases (k == a.marker) (rest-of k) on) [
        | inl at ↦
            let same = eqb-true k a.marker at in
            record {
              from = from;
              to = to;
              few = omega (arith, same);
              in_step = inl (omega (arith, same));
              sure = λ less. absurd (omega (arith, less, same));
              is = h;
            }
        | inr more ↦
            let parts = and_parts none (nat_lt k (a.marker + 200) && (nat_lt k (a.marker + 100) || nat_lt (k - a.marker) steps)) more in
            let both = and_parts (nat_lt k (a.marker + 200)) (nat_lt k (a.marker + 100) || nat_lt (k - a.marker) steps) parts.1 in
            record {
              from = from;
              to = to;
              few = ltb-true k (a.marker + 200) both.0;
              in_step = elim (or_cases (nat_lt k (a.marker + 100)) (nat_lt (k - a.marker) steps) both.1) [
                | inl own ↦ inl (ltb-true k (a.marker + 100) own)
                | inr steps-on ↦ inr (to-steps k from to (ltb-true k (a.marker + 200) both.0) (ltb-true (k - a.marker) steps steps-on))
              ];
              sure = λ less. denied.0 parts.0;
              is = h;
            }
      ])
      (λ off h. absurd (none-some x h)) is

  own-or-step : (k : ℕ) (x : Point) → IsAfterLast f ps a k x → (nat_lt k (a.marker + 100) || nat_lt (k - a.marker) steps) ≡ true
  own-or-step k x h = elim h.in_step [
    | inl own ↦ or_left (nat_lt k (a.marker + 100)) (nat_lt (k - a.marker) steps) (lt-ltb k (a.marker + 100) own)
    | inr all ↦ or_right (nat_lt k (a.marker + 100)) (nat_lt (k - a.marker) steps)
        (lt-ltb (k - a.marker) steps (from-steps k h.from h.to h.few all))
  ]

  is-said : (k : ℕ) (x : Point) → IsAfterLast f ps a k x → ((k == a.marker) || rest-of k) ≡ true
  is-said k x h = elim (cases_eq k a.marker) [
    | inl same ↦ or_left (k == a.marker) (rest-of k) (eq-eqb k a.marker same)
    | inr other ↦
        let from = h.from in
        let less : a.marker < k = elim (cases_lt a.marker k) [ inl low ↦ low | inr high ↦ absurd (other (omega (arith, high, from))) ] in
        or_right (k == a.marker) (rest-of k) (and_from none (nat_lt k (a.marker + 200) && (nat_lt k (a.marker + 100) || nat_lt (k - a.marker) steps))
        (denied.1 (h.sure less))
        (and_from (nat_lt k (a.marker + 200)) (nat_lt k (a.marker + 100) || nat_lt (k - a.marker) steps) (lt-ltb k (a.marker + 200) h.few)
        (own-or-step k x h)))
  ]

  from-last : (k : ℕ) (x : Point) → IsAfterLast f ps a k x → end_of f a none steps k ≡ Some x
  from-last k x h = cond-true ((k == a.marker) || rest-of k) (element_after f a (k - a.marker)) None (is-said k x h) ∙ h.is

  pub end-says : (list : List (Option Point)) → length list ≡ min (length ps - a.marker) 200
      → ((i : ℕ) (y : Option Point) → slice_get list i ≡ Some y → y ≡ end_of f a none steps (a.marker + i))
      → (i : ℕ) (x : Point) → (slice_get list i ≡ Some (Some x)) ↔ IsAfterLast f ps a (a.marker + i) x
  end-says list many each i x = (
    λ at. (let inside = slice_get_within list i (Some x) at in
        to-last (a.marker + i) x (omega arith) (omega (arith, inside, many)) (sym (each i (Some x) at))),
    λ h. (let to = h.to in
        let few = h.few in
        let there = slice_get-get_or list i None (omega (arith, to, few, many)) in
        there ∙ ap Some (each i (get_or list i None) there ∙ from-last (a.marker + i) x h)),
  )

module _ (f : FormatView) (ps : List Pulse) (b : Frame) (before : List Seen) (steps : ℕ) (none : Bool)
    (seen : SeenBefore f ps b (end_slack ps b) before) (long : length before ≡ b.marker + 1 - (b.marker - 100)) (stepped : AreInStep before steps)
    (denied : (none ≡ true) ↔ IsSureBefore f ps b) where
  to-steps-back : (k : ℕ) → k < b.marker → b.marker ≤ k + 100 → b.marker - k < steps → IsInStepBefore f ps b k
  to-steps-back k to few less j low high =
      same_Some (seen_before f ps b (end_slack ps b) j) (Named (b.marker - j))
      (sym (seen.each j (omega (arith, low, high, few, long))) ∙ stepped.each (b.marker - j) (omega (arith, low, high, less)))

  from-steps-back : (k : ℕ) → k < b.marker → b.marker ≤ k + 100 → IsInStepBefore f ps b k → b.marker - k < steps
  from-steps-back k to few all = elim (cases_lt (b.marker - k) steps) [
    | inl less ↦ less
    | inr far ↦
        let place : b.marker - (b.marker - steps) ≡ steps = omega (arith, far, to) in
        let here = seen.each (b.marker - steps) (omega (arith, place, far, to, few, long)) in
        let is = all (b.marker - steps) (omega (arith, far, to)) (omega arith) in
        absurd (stepped.last (subst (λ (i : ℕ). slice_get before i ≡ Some (Named i)) place (here ∙ ap Some is)))
  ]

  abbrev SaysFirst : ℕ → Point → Type 0
  SaysFirst k x = ((b.marker ≤ k) × (element_after f b (k - b.marker) ≡ Some x))
      ⊎ ((k < b.marker) × IsInStepBefore f ps b k × (element_before f b (b.marker - k) ≡ Some x))

  abbrev back-of : ℕ → Option Point
  back-of k = if nat_lt (b.marker - k) steps then element_before f b (b.marker - k) else None

  abbrev place-of : ℕ → Option Point
  place-of k = if nat_le b.marker k then element_after f b (k - b.marker) else back-of k

  to-place : (k : ℕ) (x : Point) → b.marker ≤ k + 100 → place-of k ≡ Some x → SaysFirst k x
  to-place k x few is = cond_both (nat_le b.marker k) (element_after f b (k - b.marker)) (back-of k) (λ o. o ≡ Some x → SaysFirst k x)
      (λ on h. inl (leb-true b.marker k on, h))
      (λ off. cond_both (nat_lt (b.marker - k) steps) (element_before f b (b.marker - k)) None (λ o. o ≡ Some x → SaysFirst k x)
      (λ on h. (let less = not-le off in inr (less, to-steps-back k less few (ltb-true (b.marker - k) steps on), h)))
      (λ off h. absurd (none-some x h))) is
    where
      not-le : nat_le b.marker k ≡ false → k < b.marker
      not-le off = elim (cases_lt k b.marker) [ inl less ↦ less | inr ge ↦ absurd (let on = le-leb b.marker k ge in cc) ]

  to-first : (k : ℕ) (x : Point) → k < b.marker + time_elements f.kind → begin_of f b none steps k ≡ Some x → IsBeforeFirst f ps b k x
  to-first k x to is = cond_both (none && nat_le b.marker (k + 100)) (place-of k) None (λ o. o ≡ Some x → IsBeforeFirst f ps b k x)
      (λ on h. (let parts = and_parts none (nat_le b.marker (k + 100)) on in
      let few = leb-true b.marker (k + 100) parts.1 in
      record { to = to; few = few; sure = denied.0 parts.0; is = to-place k x few h }))
      (λ off h. absurd (none-some x h)) is

  from-place : (k : ℕ) (x : Point) → b.marker ≤ k + 100 → SaysFirst k x → place-of k ≡ Some x
  from-place k x few (inl h) = cond-true (nat_le b.marker k) (element_after f b (k - b.marker)) (back-of k) (le-leb b.marker k h.0) ∙ h.1
  from-place k x few (inr h) =
      cond-false (nat_le b.marker k) (element_after f b (k - b.marker)) (back-of k) (lt-leb b.marker k h.0)
      ∙ (cond-true (nat_lt (b.marker - k) steps) (element_before f b (b.marker - k)) None
      (lt-ltb (b.marker - k) steps (from-steps-back k h.0 few h.1)) ∙ h.2)

  from-first : (k : ℕ) (x : Point) → IsBeforeFirst f ps b k x → begin_of f b none steps k ≡ Some x
  from-first k x h =
      cond-true (none && nat_le b.marker (k + 100)) (place-of k) None
      (and_from none (nat_le b.marker (k + 100)) (denied.1 h.sure) (le-leb b.marker (k + 100) h.few))
      ∙ from-place k x h.few h.is

  pub begin-says : (from : ℕ) (list : List (Option Point)) → from ≡ b.marker - 100 → from + length list ≡ b.marker + time_elements f.kind
      → ((i : ℕ) (y : Option Point) → slice_get list i ≡ Some y → y ≡ begin_of f b none steps (from + i))
      → (i : ℕ) (x : Point) → (slice_get list i ≡ Some (Some x)) ↔ IsBeforeFirst f ps b (from + i) x
  begin-says from list first many each i x = (
    λ at. (let inside = slice_get_within list i (Some x) at in
        to-first (from + i) x (omega (arith, inside, many)) (sym (each i (Some x) at))),
    λ h. (let to = h.to in
        let there = slice_get-get_or list i None (omega (arith, to, many)) in
        there ∙ ap Some (each i (get_or list i None) there ∙ from-first (from + i) x h)),
  )
