-- What the two lists of a stretch say of a pulse is what the law says.
use Rattle.std.proofs.Common.{◌≡◌, ◌⊎◌, inl, inr, ◌<◌, ◌≤◌, ◌+◌, ◌-◌, ◌*◌, ℕ, List, Bool, length, slice_get, get_or, Option, Some, None, arith, sym, ap, ◌∙◌, subst}
use Rattle.std.specs.Prelude.{◌↔◌, nat_le, nat_lt, if◌then◌else◌}
use Rattle.std.proofs.lemmas.Bool.{cases_lt, cond-false, cond-true, cond_both, le-leb, le-ltb, leb-true, lt-leb, lt-ltb, ltb-true}
use Rattle.std.proofs.lemmas.Option.{none-some, same_Some, slice_get-get_or, slice_get_within}
use Rattle.irig_codes.specs.Format.{FormatView}
use Rattle.irig_recording.specs.declared.pulse.Pulse.{Pulse}
use Rattle.irig_law.specs.{Clocks.clock_of, Clocks.slack_of, Denials.denies_first, Denials.seen_after, Denials.seen_before, Elements.element_after}
use Rattle.irig_law.specs.{Names.seen, Rows.rise_in, Rows.row_after, Rows.runs_in}
use Rattle.irig_law.specs.Happened.{AreDenials, AreSides, HasHappened, IsPointBy, event_of, is_doubtful_in, point_by}
use Rattle.irig_law.specs.Law.{IsBetween, IsOnFirst, IsOnSecond, IsOnSide, IsQuiet}
use Rattle.irig_law.specs.{Seens.SeenAfter, Seens.SeenBefore, Law.IsAfter, Law.IsBefore}
use Rattle.irig_law.specs.{Quiet.is_doubtful, Quiet.quiet_element, Quiet.quiet_of}
use Rattle.irig_law.specs.Stretches.{by_second, first_denials, named_after, second_denials, stretch}
use Rattle.irig_law.specs.declared.{frame.Frame.Frame, happened.Happened.Happened, names.Seen.Seen, point.Point.Point, sides.Sides.Sides}
use Rattle.irig_law.specs.declared.happened.Happened.TheVariants.{Event, Nothing}
use Rattle.irig_law.proofs.Denied.{length-denials}

-- no pulse is on both sides of an event
pub not-both : (first second : List Bool) (k : ℕ) → IsBefore first second k → IsAfter first second k → ⊥
not-both first second k b a =
    let later = b.shown.later in
    let order = b.shown.order in
    let order_too = a.shown.order in
    let earlier = a.shown.earlier in
    elim (cases_lt b.place b.shown.other) [
      | inl low ↦ b.possible.after b.shown.other low b.shown.denies_too
      | inr high ↦ elim (cases_lt a.shown.one b.place) [
        | inl less ↦ b.possible.before a.shown.one less a.shown.denies
        | inr more ↦ absurd (omega (arith, later, order, order_too, earlier, high, more))
      ]
    ]

module _ (f : FormatView) (century : ℕ) (ps : List Pulse) (a b : Frame) (i : ℕ) (x : Point) (less : i < stretch f a b) where
  abbrev k : ℕ
  k = a.marker + i

  abbrev s : Seen
  s = seen_after f ps a (slack_of ps a b) k

  abbrev t : Seen
  t = seen_before f ps b (slack_of ps a b) k

  abbrev Says : Type 0
  Says = IsQuiet f century ps a b k x ⊎ IsOnSide f century ps a b k x

  abbrev IsSided : Type 0
  IsSided = ((k ≡ a.marker) × (element_after f a 0 ≡ Some x)) ⊎ (IsOnFirst f ps a b k x ⊎ IsOnSecond f ps a b k x)

  abbrev on-side : Sides → Option Point
  on-side sides = if nat_lt (k - a.marker) sides.until then named_after f a s else (if nat_le sides.from (k - a.marker) then by_second f b k t else None)

  inside : k - a.marker < length (first_denials f ps a b)
  inside = let many = length-denials (denies_first f ps a (slack_of ps a b)) a.marker (stretch f a b) in omega (arith, less, many)

  to-side : (sides : Sides) → AreSides (first_denials f ps a b) (second_denials f ps a b) sides → event_of f a b sides k s t ≡ Some x → IsSided
  to-side sides are is = cond_both (nat_le k a.marker) (element_after f a 0) (on-side sides) (λ o. o ≡ Some x → IsSided)
      (λ on h. (let low = leb-true k a.marker on in inl (omega (arith, low), h)))
      (λ off. cond_both (nat_lt (k - a.marker) sides.until) (named_after f a s)
      (if nat_le sides.from (k - a.marker) then by_second f b k t else None) (λ o. o ≡ Some x → IsSided)
      (λ on h. inr (inl (record { before = (are.before (k - a.marker)).0 (ltb-true (k - a.marker) sides.until on); is = h })))
      (λ off. cond_both (nat_le sides.from (k - a.marker)) (by_second f b k t) None (λ o. o ≡ Some x → IsSided)
      (λ on h. inr (inr (record { after = (are.after (k - a.marker) inside).0 (leb-true sides.from (k - a.marker) on); is = h })))
      (λ off h. absurd (none-some x h)))) is

  from-other : (sides : Sides) → AreSides (first_denials f ps a b) (second_denials f ps a b) sides
      → IsOnFirst f ps a b k x ⊎ IsOnSecond f ps a b k x → on-side sides ≡ Some x
  from-other sides are (inl h) =
      let low = (are.before (k - a.marker)).1 h.before in
      cond-true (nat_lt (k - a.marker) sides.until) (named_after f a s)
      (if nat_le sides.from (k - a.marker) then by_second f b k t else None) (lt-ltb (k - a.marker) sides.until low) ∙ h.is
  from-other sides are (inr h) =
      let high = (are.after (k - a.marker) inside).1 h.after in
      elim (cases_lt (k - a.marker) sides.until) [
        | inl low ↦ absurd (not-both (first_denials f ps a b) (second_denials f ps a b) (k - a.marker) ((are.before (k - a.marker)).0 low) h.after)
        | inr far ↦
            cond-false (nat_lt (k - a.marker) sides.until) (named_after f a s)
            (if nat_le sides.from (k - a.marker) then by_second f b k t else None) (le-ltb (k - a.marker) sides.until far)
            ∙ (cond-true (nat_le sides.from (k - a.marker)) (by_second f b k t) None (le-leb sides.from (k - a.marker) high) ∙ h.is)
      ]

  -- the marker is before the event, and not after it
  at-marker : k ≤ a.marker → IsSided → element_after f a 0 ≡ Some x
  at-marker low (inl h) = h.1
  at-marker low (inr (inl h)) =
      let first : k - a.marker ≡ 0 = omega (arith, low) in
      subst (λ (n : ℕ). named_after f a (seen (clock_of f ps a (slack_of ps a b)) (rise_in ps (row_after a)) (runs_in f ps (row_after a)) n) ≡ Some x)
      first h.is
  at-marker low (inr (inr h)) = let earlier = h.after.shown.earlier in absurd (omega (arith, low, earlier))

  from-side : (sides : Sides) → AreSides (first_denials f ps a b) (second_denials f ps a b) sides → IsSided → event_of f a b sides k s t ≡ Some x
  from-side sides are side = elim (cases_lt a.marker k) [
    | inl later ↦ cond-false (nat_le k a.marker) (element_after f a 0) (on-side sides) (lt-leb k a.marker later) ∙ from-event sides are later side
    | inr low ↦ cond-true (nat_le k a.marker) (element_after f a 0) (on-side sides) (le-leb k a.marker low) ∙ at-marker low side
  ]
    where
      from-event : (sides : Sides) → AreSides (first_denials f ps a b) (second_denials f ps a b) sides → a.marker < k → IsSided → on-side sides ≡ Some x
      from-event sides are later (inl h) = let at = h.0 in absurd (omega (arith, later, at))
      from-event sides are later (inr h) = from-other sides are h

  module _ (denials : List ℕ) where
    doubts : (n : ℕ) → AreDenials f ps a b (Nothing n) denials → is_doubtful_in denials ≡ is_doubtful f ps a b n
    doubts n deny = λ i q. nat_lt 1 (deny q i)

    to-says : (h : Happened) → HasHappened f century ps a b h → AreDenials f ps a b h denials → point_by f a b h denials k s t ≡ Some x → Says
    to-says (Nothing n) fit deny is =
        inl (record { periods = n; fits = fit; is = subst (λ (d : ℕ → Bool). quiet_of f a b (100 * n) d k s t ≡ Some x) (doubts n deny) is })
    to-says (Event sides) are deny is = inr (record { event = are.0; side = to-side sides are.1 is })

    from-says : (h : Happened) → HasHappened f century ps a b h → AreDenials f ps a b h denials → Says → point_by f a b h denials k s t ≡ Some x
    from-says (Nothing n) fit deny (inl q) =
        let same : q.periods ≡ n = same_Some q.periods n (sym q.fits.times ∙ fit.times) in
        subst (λ (d : ℕ → Bool). quiet_of f a b (100 * n) d k s t ≡ Some x) (sym (doubts n deny))
        (subst (λ m. quiet_element f ps a b m k ≡ Some x) same q.is)
    from-says (Nothing n) fit deny (inr q) = absurd (q.event n fit)
    from-says (Event sides) are deny (inl q) = absurd (are.0 q.periods q.fits)
    from-says (Event sides) are deny (inr q) = from-side sides are.1 q.side

-- a list of what its two lists say is what the law says of a stretch
module _ (f : FormatView) (century : ℕ) (ps : List Pulse) (a b : Frame) (h : Happened) (denials : List ℕ) (after before : List Seen)
    (list : List (Option Point)) (deny : AreDenials f ps a b h denials) (order : a.marker < b.marker)
    (happened : HasHappened f century ps a b h) (seen : SeenAfter f ps a (slack_of ps a b) after)
    (seen-too : SeenBefore f ps b (slack_of ps a b) before) (long : length after ≡ stretch f a b)
    (long-too : length before ≡ b.marker - a.marker + 1) (each : length list ≡ stretch f a b)
    (are : (i : ℕ) (y : Option Point) → slice_get list i ≡ Some y → IsPointBy f a b h denials after before i y) (i : ℕ) (x : Point) where
  abbrev by-lists : Option Point
  by-lists = point_by f a b h denials (a.marker + i) (seen_after f ps a (slack_of ps a b) (a.marker + i))
      (seen_before f ps b (slack_of ps a b) (a.marker + i))

  value : i < stretch f a b → (y : Option Point) → slice_get list i ≡ Some y → y ≡ by-lists
  value less y at =
      let place : a.marker + i - a.marker ≡ i = omega arith in
      let here : slice_get after i ≡ Some (seen_after f ps a (slack_of ps a b) (a.marker + i)) =
      subst (λ n. slice_get after n ≡ Some (seen_after f ps a (slack_of ps a b) (a.marker + i))) place
      (seen.each (a.marker + i) (omega (arith, less, long))) in
      are i y at (seen_after f ps a (slack_of ps a b) (a.marker + i)) (seen_before f ps b (slack_of ps a b) (a.marker + i)) here
      (seen-too.each (a.marker + i) (omega (arith, long-too, order)))

  pub stretch-says : (slice_get list i ≡ Some (Some x)) ↔ IsBetween f century ps a b (a.marker + i) x
  stretch-says = (
    λ at. (let inside = slice_get_within list i (Some x) at in
        let less : i < stretch f a b = omega (arith, inside, each) in
        record {
          from = omega arith;
          to = omega (arith, less);
          is = to-says f century ps a b i x less denials h happened deny (sym (value less (Some x) at));
        }),
    λ between. (let to = between.to in
        let less : i < stretch f a b = omega (arith, to) in
        let there = slice_get-get_or list i None (omega (arith, less, each)) in
        there ∙ ap Some (value less (get_or list i None) there ∙ from-says f century ps a b i x less denials h happened deny between.is)),
  )
