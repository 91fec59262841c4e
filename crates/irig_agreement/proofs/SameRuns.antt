-- Two tracks agree as long as they have the same pulses, as the same elements.
use Rattle.std.proofs.Common.{◌≡◌, inl, inr, ◌<◌, ◌≤◌, ◌+◌, ◌-◌, ◌*◌, ◌/◌, ◌==◌, ◌&&◌, ℕ, zero, suc, Bool, true, false, cond, List, length, slice_get, get_or, Some, arith, refl, sym, ap, ◌∙◌, subst}
use Rattle.std.proofs.lemmas.Bool.{cases_lt, cases_order, eq-eqb}
use Rattle.std.proofs.lemmas.{Nat.div-mul-add, Option.same_Some, Option.slice_get-get_or, Option.slice_get_within}
use Rattle.irig_codes.specs.{Format.FormatView, Format.frame_period_of, Width.is_in_step}
use Rattle.irig_recording.specs.declared.pulse.Pulse.{Pulse}
use Rattle.irig_track.specs.{Splices.risen_by, Track.IsLongTrack}
use Rattle.irig_track.proofs.Searches.{risen_above, risen_below}
use Rattle.irig_times.specs.{Steps.micros_between, declared.time.Time.Time, declared.why.Why.TheVariants.Step}
use Rattle.irig_times.proofs.SameTimes.{same-time}
use Rattle.irig_law.specs.{Fits.periods_apart, declared.frame.Frame.Frame, declared.point.Point.Point}
use Rattle.irig_timed.specs.{Around.AreAround, Bends.bends_over, Gaps.gap_between, Gaps.gap_over, Gaps.is_free, Gaps.is_step, Held.held}
use Rattle.irig_timed.specs.{Knowns.IsKnownIn, Line.elements_after, Line.elements_by, Line.time_on, Moments.IsElement, Stretches.stretch_at}
use Rattle.irig_timed.specs.{Moments.IsMomentBy, Moments.IsMomentOn, Moments.frames_by, Runs.AreRunsTo, Runs.IsIn, Runs.IsRun, Runs.nth_of}
use Rattle.irig_timed.specs.declared.{gap.Gap.Gap, moment.Moment.Moment, run.Place.Place, run.Run.Run}
use Rattle.irig_timed.specs.declared.gap.Gap.TheVariants.{Line, Untimed}
use Rattle.irig_agreement.specs.{Agreed.AreSame, Agreed.HasPulse, Agreed.RiseAlike, Agreement.Agrees}
use Rattle.irig_agreement.proofs.DoubtLists.{or-left}

-- a pulse is in one run at most, so it is one element
module _ (f : FormatView) (ps : List Pulse) (n : ℕ) (runs : List Run) (are : AreRunsTo f ps n runs) where
  apart-by : (i d : ℕ) (r s : Run) → slice_get runs i ≡ Some r → slice_get runs (i + suc d) ≡ Some s → r.number + r.count ≤ s.number
  apart-by i zero r s at at-too =
      let next : i + 1 ≡ i + suc zero = omega arith in
      are.order i r s at (ap (λ (j : ℕ). slice_get runs j) next ∙ at-too)
  apart-by i (suc d) r s at at-too =
      let inside = slice_get_within runs (i + suc (suc d)) s at-too in
      let there = slice_get-get_or runs (i + suc d) r (omega (arith, inside)) in
      let next : i + suc d + 1 ≡ i + suc (suc d) = omega arith in
      let low = apart-by i d r (get_or runs (i + suc d) r) at there in
      let high = are.order (i + suc d) (get_or runs (i + suc d) r) s there (ap (λ (j : ℕ). slice_get runs j) next ∙ at-too) in
      omega (arith, low, high)

  runs-apart : (i j : ℕ) (r s : Run) → slice_get runs i ≡ Some r → slice_get runs j ≡ Some s → i < j → r.number + r.count ≤ s.number
  runs-apart i j r s at at-too less =
      let d = j - (i + 1) in
      let sum : j ≡ i + suc d = omega (arith, less) in
      apart-by i d r s at (ap (λ (k : ℕ). slice_get runs k) (sym sum) ∙ at-too)

  one-run : (k i j : ℕ) (r s : Run) → slice_get runs i ≡ Some r → slice_get runs j ≡ Some s → r.number ≤ k → k < r.number + r.count
      → s.number ≤ k → k < s.number + s.count → r ≡ s
  one-run k i j r s at at-too from few from-too few-too = elim (cases_order i j) [
    | inl same ↦ same_Some r s (sym at ∙ (ap (λ (l : ℕ). slice_get runs l) same ∙ at-too))
    | inr other ↦ elim other [
      | inl less ↦ (let ends = runs-apart i j r s at at-too less in absurd (omega (arith, ends, few, from-too)))
      | inr more ↦ (let ends = runs-apart j i s r at-too at more in absurd (omega (arith, ends, few-too, from)))
    ]
  ]

  pub in-run : (k i m : ℕ) (r : Run) (x : Point) → slice_get runs i ≡ Some r → r.number + m ≡ k → m < r.count → IsIn runs k x → x ≡ (nth_of r m).point
  in-run k i m r x at is less a =
      let one : a.one ≡ r = one-run k a.at i a.one r a.there at a.from a.few (omega (arith, is)) (omega (arith, is, less)) in
      let numbers = ap (λ (z : Run). z.number) one in
      let elements = ap (λ (z : Run). z.element) one in
      let frame : x.frame ≡ r.frame = sym a.is ∙ ap (λ (z : Run). z.frame) one in
      let element : x.element ≡ r.element + m = omega (arith, numbers, elements, a.place, is) in
      λ i. record { frame = frame i; element = element i }

all-three : (a b c : Bool) → a ≡ true → b ≡ true → c ≡ true → (a && (b && c)) ≡ true
all-three a b c p q r = λ i. p i && (q i && r i)

-- two pulses of a run, one after the other, are a step apart
module _ (f : FormatView) (century : ℕ) (ps : List Pulse) (believed : List Frame) (n m : ℕ) (r : Run) (run : IsRun f ps n r) (less : suc m < r.count) where
  one-element : elements_after f century (nth_of r m).point (nth_of r (suc m)).point ≡ 1
  one-element =
      let same = ap (λ b. elements_by (cond b (Some 0) (periods_apart century (frame_period_of f.kind) r.frame r.frame)) (r.element + m) (r.element + suc m))
      (same-time r.frame r.frame refl) in
      same ∙ omega arith

  in-step : is_in_step f (micros_between ps (r.number + m) (r.number + suc m)) ≡ true
  in-step =
      let next : r.number + suc m ≡ r.number + m + 1 = omega arith in
      ap (λ k. is_in_step f (micros_between ps (r.number + m) k)) next ∙ run.steps (r.number + m) (omega arith) (omega (arith, less))

  pub step-line : gap_between f century ps believed (nth_of r m) (nth_of r (suc m)) ≡ Line 0
  step-line =
      let n = elements_after f century (nth_of r m).point (nth_of r (suc m)).point in
      let one = r.number + m in
      let other = r.number + suc m in
      let step : is_step f ps one other n ≡ true = all-three (other == one + 1) (n == 1) (is_in_step f (micros_between ps one other))
      (eq-eqb other (one + 1) (omega arith)) (eq-eqb n 1 one-element) in-step in
      let other-gap = gap_over f ps (is_free f ps one other) (stretch_at believed one) (bends_over f ps believed one other) (micros_between ps one other) n in
      ap (λ b. cond b (Line 0) (cond (n == 0) (Untimed Step) other-gap)) step

-- between two such pulses
module _ (f : FormatView) (century : ℕ) (ps : List Pulse) (believed : List Frame) (held : List Bool) (runs : List Run) (gaps : List Gap)
    (known : IsKnownIn f century ps believed held runs gaps) (long : ℕ) (track : IsLongTrack long ps)
    (r : Run) (place m : ℕ) (there : slice_get runs place ≡ Some r) (less : suc m < r.count)
    (p q : Pulse) (at : slice_get ps (r.number + m) ≡ Some p) (at-too : slice_get ps (r.number + suc m) ≡ Some q)
    (micros : ℕ) (low : p.rise ≤ micros) (high : micros < q.rise) where
  abbrev P : ℕ → Point → Type 0
  P = IsElement f century ps believed

  abbrev pub time-there : Time
  time-there = time_on f (nth_of r m).point (nth_of r (suc m)).point (elements_after f century (nth_of r m).point (nth_of r (suc m)).point)
      (1000000 * micros - 1000000 * p.rise) (1000000 * (q.rise - p.rise))

  is-element : (k : ℕ) → k < r.count → P (r.number + k) (nth_of r k).point
  is-element k few = (known.points (r.number + k) (nth_of r k).point).0
      (record { at = place; one = r; there = there; from = omega arith; few = omega (arith, few); place = omega arith; is = refl })

  risen : risen_by (1000000 * micros / 1000000) ps ≡ r.number + suc m
  risen =
      let product : 1000000 * micros ≡ micros * 1000000 + 0 = omega arith in
      let whole : 1000000 * micros / 1000000 ≡ micros = ap (λ n. n / 1000000) product ∙ div-mul-add micros 1000000 0 (omega arith) in
      let above = risen_above micros 0 (r.number + m) p ps track.rises at low in
      let below = risen_below micros 0 (r.number + suc m) q ps track.rises at-too high in
      let here : risen_by micros ps ≡ r.number + suc m = omega (arith, above, below) in
      ap (λ t. risen_by t ps) whole ∙ here

  around : AreAround P (r.number + suc m) (Some (nth_of r m)) (Some (nth_of r (suc m)))
  around = record {
    last = (omega arith, is-element m (omega (arith, less)), λ k x after before is. absurd (omega (arith, after, before)));
    next = (omega arith, is-element (suc m) less, λ k x after before is. absurd (omega (arith, after, before)));
  }

  pub moment-there : IsMomentOn f century ps believed 1000000 (1000000 * micros)
      (record { time = time-there; bound = 0; from = r.number + m; to = r.number + suc m })
  moment-there = (
    record {
      from = nth_of r m;
      to = nth_of r (suc m);
      point = p;
      next = q;
      around = subst (λ k. AreAround P k (Some (nth_of r m)) (Some (nth_of r (suc m)))) (sym risen) around;
      stands = at;
      stands_next = at-too;
      line = step-line f century ps believed (length ps) m r (known.are_runs.each place r there) less;
      is = refl;
    },
    refl,
    refl,
  )

  -- no other time
  pub time-once : (t : Time) (b : ℕ) → IsMomentBy f century ps believed 1000000 (1000000 * micros) t b → time-there ≡ t
  time-once t b h =
      let there-too = subst (λ k. AreAround P k (Some h.from) (Some h.to)) risen h.around in
      let from : r.number + m ≡ h.from.number = elim (cases_lt h.from.number (r.number + m)) [
        | inl early ↦ absurd (there-too.last.2 (r.number + m) (nth_of r m).point early (omega arith) (is-element m (omega (arith, less))))
        | inr late ↦ (let before = there-too.last.0 in omega (arith, late, before))
      ] in
      let to : r.number + suc m ≡ h.to.number = elim (cases_lt (r.number + suc m) h.to.number) [
        | inl late ↦ absurd (there-too.next.2 (r.number + suc m) (nth_of r (suc m)).point (omega arith) late (is-element (suc m) less))
        | inr early ↦ (let after = there-too.next.0 in omega (arith, early, after))
      ] in
      let one : h.from.point ≡ (nth_of r m).point = in-run f ps (length ps) runs known.are_runs h.from.number place m r h.from.point there from
      (omega (arith, less)) ((known.points h.from.number h.from.point).1 there-too.last.1) in
      let other : h.to.point ≡ (nth_of r (suc m)).point = in-run f ps (length ps) runs known.are_runs h.to.number place (suc m) r h.to.point there to less
      ((known.points h.to.number h.to.point).1 there-too.next.1) in
      let first : h.point ≡ p = same_Some h.point p (sym h.stands ∙ (ap (slice_get ps) (sym from) ∙ at)) in
      let second : h.next ≡ q = same_Some h.next q (sym h.stands_next ∙ (ap (slice_get ps) (sym to) ∙ at-too)) in
      sym (h.is ∙ (λ i. time_on f (one i) (other i) (elements_after f century (one i) (other i)) (1000000 * micros - 1000000 * (first i).rise)
      (1000000 * ((second i).rise - (first i).rise))))

-- of two tracks
module _ (f : FormatView) (century : ℕ) (old new : List Pulse) (runs others : List Run) (gaps more : List Gap)
    (known : IsKnownIn f century old (frames_by f false century old) (held f false century old) runs gaps)
    (known-too : IsKnownIn f century new (frames_by f false century new) (held f false century new) others more)
    (long long-too : ℕ) (track : IsLongTrack long old) (track-too : IsLongTrack long-too new) (r s : Run) where
  agrees-at : (place place-too m n : ℕ) (p q v w : Pulse) (micros : ℕ) → slice_get runs place ≡ Some r → slice_get others place-too ≡ Some s
      → suc m < r.count → suc n < s.count → r.frame ≡ s.frame → r.element + m ≡ s.element + n
      → slice_get old (r.number + m) ≡ Some p → slice_get old (r.number + suc m) ≡ Some q
      → slice_get new (s.number + n) ≡ Some v → slice_get new (s.number + suc n) ≡ Some w
      → p.rise ≡ v.rise → q.rise ≡ w.rise → p.rise ≤ micros → micros < q.rise → Agrees f century old new micros
  agrees-at place place-too m n p q v w micros there there-too less less-too frame element at next at-too next-too begin end low high =
      let low-too : v.rise ≤ micros = subst (λ (k : ℕ). k ≤ micros) begin low in
      let high-too : micros < w.rise = subst (λ (k : ℕ). micros < k) end high in
      let element-too : r.element + suc m ≡ s.element + suc n = omega (arith, element) in
      let here = moment-there f century old (frames_by f false century old) (held f false century old) runs gaps known long track r place m there less p q
      at next micros low high in
      let now = moment-there f century new (frames_by f false century new) (held f false century new) others more known-too long-too track-too s place-too n
      there-too less-too v w at-too next-too micros low-too high-too in
      let one : Time = time-there f century old (frames_by f false century old) (held f false century old) runs gaps known long track r place m there less p q
      at next micros low high in
      let other : Time = time-there f century new (frames_by f false century new) (held f false century new) others more known-too long-too track-too s
      place-too n there-too less-too v w at-too next-too micros low-too high-too in
      let same : one ≡ other = λ i. time_on f (record { frame = frame i; element = element i }) (record { frame = frame i; element = element-too i })
      (elements_after f century (record { frame = frame i; element = element i }) (record { frame = frame i; element = element-too i }))
      (1000000 * micros - 1000000 * begin i) (1000000 * (end i - begin i)) in
      let x : Moment = record { time = one; bound = 0; from = r.number + m; to = r.number + suc m } in
      let y : Moment = record { time = other; bound = 0; from = s.number + n; to = s.number + suc n } in
      record {
        kept = λ z timed. (let once = time-once f century old (frames_by f false century old) (held f false century old) runs gaps known long track r place m
            there less p q at next micros low high z.time z.bound timed.0 in (
              y,
              now,
              or-left _ (_) (same-time z.time other (sym once ∙ same)),
            ));
        sure = λ z timed next. (x, here);
      }

  pub agreed-span : (one other many most : ℕ) → HasPulse runs r one → HasPulse others s other → AreSame r s one other
      → most ≤ r.count - (one - r.number) → most ≤ s.count - (other - s.number) → many ≤ most → RiseAlike old new one other many
      → one + most ≤ length old → other + most ≤ length new → (first last : Pulse)
      → slice_get old one ≡ Some first → slice_get old (one + many - 1) ≡ Some last → 0 < many
      → (micros : ℕ) → first.rise ≤ micros → micros < last.rise → Agrees f century old new micros
  agreed-span one other many most h g same few few-too within alike inside inside-too first last at at-last some micros low high =
      let from = h.from in
      let from-too = g.from in
      let above = risen_above micros 0 one first old track.rises at low in
      let below = risen_below micros 0 (one + many - 1) last old track.rises at-last high in
      let risen = risen_by micros old in
      let j : ℕ = risen - 1 - one in
      let m : ℕ = one + j - r.number in
      let n : ℕ = other + j - s.number in
      let where-it-is : r.number + m ≡ one + j = omega (arith, from) in
      let where-next : r.number + suc m ≡ one + suc j = omega (arith, from) in
      let where-too : s.number + n ≡ other + j = omega (arith, from-too) in
      let where-next-too : s.number + suc n ≡ other + suc j = omega (arith, from-too) in
      let fits : suc j < many = omega (arith, above, below, some) in
      let less : suc m < r.count = omega (arith, fits, within, few, from, h.few) in
      let less-too : suc n < s.count = omega (arith, fits, within, few-too, from-too, g.few) in
      let p = get_or old (one + j) first in
      let q = get_or old (one + suc j) first in
      let v = get_or new (other + j) first in
      let w = get_or new (other + suc j) first in
      let at-p = slice_get-get_or old (one + j) first (omega (arith, fits, within, inside)) in
      let at-q = slice_get-get_or old (one + suc j) first (omega (arith, fits, within, inside)) in
      let at-v = slice_get-get_or new (other + j) first (omega (arith, fits, within, inside-too)) in
      let at-w = slice_get-get_or new (other + suc j) first (omega (arith, fits, within, inside-too)) in
      let element : r.element + m ≡ s.element + n = omega (arith, same.element, from, from-too) in
      let early : p.rise ≤ micros = elim (cases_lt micros p.rise) [
        | inl before ↦ (let few-risen = risen_below micros 0 (one + j) p old track.rises at-p before in absurd (omega (arith, few-risen, above)))
        | inr by ↦ by
      ] in
      let late : micros < q.rise = elim (cases_lt micros q.rise) [
        | inl before ↦ before
        | inr by ↦ (let more-risen = risen_above micros 0 (one + suc j) q old track.rises at-q by in absurd (omega (arith, more-risen, above)))
      ] in
      agrees-at h.at g.at m n p q v w micros h.there g.there less less-too same.frame element
      (ap (slice_get old) where-it-is ∙ at-p) (ap (slice_get old) where-next ∙ at-q)
      (ap (slice_get new) where-too ∙ at-v) (ap (slice_get new) where-next-too ∙ at-w)
      (alike j p v (omega (arith, fits)) at-p at-v) (alike (suc j) q w fits at-q at-w)
      early late
