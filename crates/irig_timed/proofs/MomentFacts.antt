-- What is known of a moment between two pulses that have a time.
use Rattle.std.proofs.Common.{◌≡◌, inl, inr, ◌<◌, ◌≤◌, ◌-◌, ◌*◌, ◌/◌, ℕ, Bool, true, false, List, length, slice_get, Some, arith, refl, sym, ap, ◌∙◌, subst}
use Rattle.std.proofs.lemmas.Bool.{and_parts, cases_lt, ltb-true}
use Rattle.std.proofs.lemmas.Option.{same_Some}
use Rattle.irig_codes.specs.Format.{FormatView}
use Rattle.irig_index.specs.Frames.{frames}
use Rattle.irig_recording.specs.declared.pulse.Pulse.{Pulse}
use Rattle.irig_track.specs.{Splices.risen_by, Track.IsLongTrack}
use Rattle.irig_track.proofs.Searches.{risen_above, risen_below}
use Rattle.irig_times.specs.declared.time.Time.{Time}
use Rattle.irig_law.specs.declared.{frame.Frame.Frame, point.Point.Point}
use Rattle.irig_timed.specs.{Line.elements_after, Around.AreAround, Gaps.gap_between, Knowns.IsKnownIn}
use Rattle.irig_timed.specs.{Line.counts_to, Line.is_in_hour, Line.since_hour, Line.time_on, Moments.IsElement, Moments.IsMomentBy, Moments.IsMomentOn}
use Rattle.irig_timed.specs.{Reasons.gap_with, Reasons.has_doubtful, Reasons.with_doubt, Knowns.IsAround, Knowns.IsLine}
use Rattle.irig_timed.specs.declared.{around.Around.Around, gap.Gap.Gap, run.Place.Place, run.Run.Run}
use Rattle.irig_timed.specs.declared.gap.Gap.TheVariants.{Line, Untimed}
use Rattle.irig_timed.proofs.{RunPlaces.in-once, Surround.first-once, Surround.last-once}

-- a pulse with a time is not past the end of its hour
pub hour-low : (f : FormatView) (x : Point) → is_in_hour f x ≡ true
    → (x.element < 100) × (x.frame.micros < 61000000) × (since_hour f x < counts_to x.frame)
hour-low f x on =
    let first = and_parts _ _ on in
    let second = and_parts _ _ first.1 in
    (ltb-true x.element 100 first.0, ltb-true x.frame.micros 61000000 second.0, ltb-true (since_hour f x) (counts_to x.frame) second.1)

module _ (micros : ℕ) (ps : List Pulse) (track : IsLongTrack micros ps) (t k : ℕ) (p : Pulse) (at : slice_get ps k ≡ Some p) where
  -- a pulse that has risen by a time rises at or before it, and one that has not rises after it
  pub has-risen : k < risen_by t ps → p.rise ≤ t
  has-risen less = elim (cases_lt t p.rise) [
    | inl early ↦ (let few = risen_below t 0 k p ps track.rises at early in absurd (omega (arith, few, less)))
    | inr ge ↦ ge
  ]

  pub not-risen : risen_by t ps ≤ k → t < p.rise
  not-risen le = elim (cases_lt t p.rise) [
    | inl early ↦ early
    | inr ge ↦ (let more = risen_above t 0 k p ps track.rises at ge in absurd (omega (arith, more, le)))
  ]

abbrev bound-in : Gap → ℕ
bound-in (Line bound) = bound
bound-in (Untimed why) = 0

pub same-bound : (a b : ℕ) → Line a ≡ Line b → a ≡ b
same-bound a b e = ap bound-in e

-- a line has no doubt
pub line-of : (d : Bool) (g : Gap) (b : ℕ) → with_doubt d g ≡ Line b → g ≡ Line b
line-of d (Line c) b e = doubt-line d c ∙ e
  where
    doubt-line : (d : Bool) (c : ℕ) → Line c ≡ with_doubt d (Line c)
    doubt-line true c = refl
    doubt-line false c = refl
line-of true (Untimed w) b e = absurd (cc e)
line-of false (Untimed w) b e = e

pub line-with : (d : Bool) (g : Gap) (b : ℕ) → g ≡ Line b → with_doubt d g ≡ Line b
line-with true g b e = ap (with_doubt true) e
line-with false g b e = ap (with_doubt false) e

module _ (f : FormatView) (century : ℕ) (ps : List Pulse) (believed : List Frame) (held : List Bool) (runs : List Run) (gaps : List Gap)
    (known : IsKnownIn f century ps believed held runs gaps) where
  abbrev P : ℕ → Point → Type 0
  P = IsElement f century ps believed

  pub element-once : (k : ℕ) (x y : Point) → P k x → P k y → x ≡ y
  element-once k x y a b = in-once f ps (length ps) runs known.are_runs k x y ((known.points k x).1 a) ((known.points k y).1 b)

  module _ (d n risen : ℕ) (is : risen ≡ risen_by (n / d) ps) (a : Around) (around : IsAround f century ps believed held risen a) where
    -- without a line there is no time
    pub no-moment : ((p q : Place) (b : ℕ) → IsLine a p q b → ⊥) → (t : Time) (b : ℕ) → IsMomentBy f century ps believed d n t b → ⊥
    no-moment none t b h =
        let there = subst (λ r. AreAround P r (Some h.from) (Some h.to)) (sym is) h.around in
        let from = last-once P element-once risen a.from (Some h.from) around.around.last there.last in
        let to = first-once P element-once risen a.to (Some h.to) around.around.next there.next in
        let doubt = has_doubtful f (Some h.from) (Some h.to) (frames f ps) held in
        let gap : a.gap ≡ Line b = around.gap ∙ ((λ i. gap_with f century ps believed held (from i) (to i))
        ∙ line-with doubt (gap_between f century ps believed h.from h.to) b h.line) in
        none h.from h.to b (record { last = from; next = to; line = gap })

    module _ (p q : Place) (bound : ℕ) (line : IsLine a p q bound) (point next : Pulse) (at : slice_get ps p.number ≡ Some point)
        (at_too : slice_get ps q.number ≡ Some next) where
      pub around-line : AreAround P risen (Some p) (Some q)
      around-line = subst (λ o. AreAround P risen (Some p) o) line.next (subst (λ o. AreAround P risen o a.to) line.last around.around)

      pub gap-line : gap_between f century ps believed p q ≡ Line bound
      gap-line =
          let doubt = has_doubtful f (Some p) (Some q) (frames f ps) held in
          line-of doubt (gap_between f century ps believed p q) bound
          (sym (λ i. gap_with f century ps believed held (line.last i) (line.next i)) ∙ (sym around.gap ∙ line.line))

      abbrev pub time : Time
      time = time_on f p.point q.point (elements_after f century p.point q.point) (n - d * point.rise) (d * (next.rise - point.rise))

      pub moment-on : (t : Time) → t ≡ time
          → IsMomentOn f century ps believed d n (record { time = t; bound = bound; from = p.number; to = q.number })
      moment-on t at-time = (
        record {
          from = p;
          to = q;
          point = point;
          next = next;
          around = subst (λ r. AreAround P r (Some p) (Some q)) is around-line;
          stands = at;
          stands_next = at_too;
          line = gap-line;
          is = at-time;
        },
        refl,
        refl,
      )

      pub moment-same : (t : Time) (b : ℕ) (h : IsMomentBy f century ps believed d n t b)
          → (time ≡ t) × (bound ≡ b) × (p.number ≡ h.from.number) × (q.number ≡ h.to.number)
      moment-same t b h =
          let there = subst (λ r. AreAround P r (Some h.from) (Some h.to)) (sym is) h.around in
          let ep : p ≡ h.from = same_Some p h.from (last-once P element-once risen (Some p) (Some h.from) around-line.last there.last) in
          let eq : q ≡ h.to = same_Some q h.to (first-once P element-once risen (Some q) (Some h.to) around-line.next there.next) in
          let first : point ≡ h.point = same_Some point h.point (sym at ∙ (ap (λ (z : Place). slice_get ps z.number) ep ∙ h.stands)) in
          let second : next ≡ h.next = same_Some next h.next (sym at_too ∙ (ap (λ (z : Place). slice_get ps z.number) eq ∙ h.stands_next)) in
          let times : time ≡ t = (λ i. time_on f (ep i).point (eq i).point (elements_after f century (ep i).point (eq i).point)
          (n - d * (first i).rise) (d * ((second i).rise - (first i).rise))) ∙ sym h.is in
          let lines = sym gap-line ∙ ((λ i. gap_between f century ps believed (ep i) (eq i)) ∙ h.line) in
          (times, same-bound bound b lines, ap (λ (z : Place). z.number) ep, ap (λ (z : Place). z.number) eq)

-- what is known by some lists is known by the same ones
pub known-by : (f : FormatView) (century : ℕ) (ps : List Pulse) (believed : List Frame) (held : List Bool) (runs : List Run) (gaps : List Gap)
    (other : List Run) (more : List Gap) → other ≡ runs → more ≡ gaps → IsKnownIn f century ps believed held runs gaps
    → IsKnownIn f century ps believed held other more
known-by f century ps believed held runs gaps other more er eg known =
    subst (λ (l : List Gap). IsKnownIn f century ps believed held other l) (sym eg)
    (subst (λ (l : List Run). IsKnownIn f century ps believed held l gaps) (sym er) known)

-- the two pulses of a line
pub record LineFacts (ps : List Pulse) (risen : ℕ) (p q : Place) : Type 0 where
  pub low : p.number < risen
  pub high : risen ≤ q.number
  pub inside : p.number < length ps
  pub inside_too : q.number < length ps
  pub few : (p.point.element < 100) × (p.point.frame.micros < 61000000)
  pub few_too : (q.point.element < 100) × (q.point.frame.micros < 61000000)

pub line-facts : (f : FormatView) (century : ℕ) (ps : List Pulse) (believed : List Frame) (held : List Bool) (risen : ℕ) (a : Around)
    → IsAround f century ps believed held risen a → (p q : Place) (bound : ℕ) → IsLine a p q bound → LineFacts ps risen p q
line-facts f century ps believed held risen a around p q bound line =
    let P = IsElement f century ps believed in
    let there : AreAround P risen (Some p) (Some q) =
    subst (λ o. AreAround P risen (Some p) o) line.next (subst (λ o. AreAround P risen o a.to) line.last around.around) in
    let first = there.last in
    let second = there.next in
    let one = hour-low f p.point first.1.hour in
    let other = hour-low f q.point second.1.hour in
    record {
      low = first.0;
      high = second.0;
      inside = first.1.point.inside;
      inside_too = second.1.point.inside;
      few = (one.0, one.1);
      few_too = (other.0, other.1);
    }

-- and when they rise
pub line-rises : (micros : ℕ) (ps : List Pulse) → IsLongTrack micros ps → (t risen : ℕ) → risen ≡ risen_by t ps → (p q : Place)
    → LineFacts ps risen p q → (begin end : Pulse) → slice_get ps p.number ≡ Some begin → slice_get ps q.number ≡ Some end
    → (begin.rise ≤ t) × (t < end.rise)
line-rises micros ps track t risen is p q facts begin end at at_too =
    let low = facts.low in
    let high = facts.high in (
      has-risen micros ps track t p.number begin at (omega (arith, low, is)),
      not-risen micros ps track t q.number end at_too (omega (arith, high, is)),
    )
