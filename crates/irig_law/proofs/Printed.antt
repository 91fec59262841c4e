-- What is printed is the true time.
use Rattle.std.proofs.Common.{◌≡◌, ◌⊎◌, inl, inr, ◌<◌, ◌≤◌, ◌+◌, ◌-◌, ◌*◌, ◌/◌, ◌%◌, ◌==◌, ℕ, List, Bool, Option, Some, None, arith, refl, sym, ap, ◌∙◌, subst}
use Rattle.std.specs.Prelude.{nat_le, nat_lt, option_map, if◌then◌else◌}
use Rattle.std.proofs.lemmas.Bool.{cases_lt, cond_both, eqb-false, eqb-true, leb-false, leb-true, ltb-true}
use Rattle.std.proofs.lemmas.Option.{none-some, same_Some}
use Rattle.irig_codes.specs.Format.{FormatView, frame_period_of, interval_of}
use Rattle.irig_codes.specs.declared.{fields.Fields.Fields, format.Kind.Kind}
use Rattle.irig_codes.specs.declared.format.Kind.TheVariants.{A, B, E, G}
use Rattle.irig_recording.specs.declared.pulse.Pulse.{Pulse}
use Rattle.irig_times.specs.{TimedElements.time_elements, Times.plus, Times.minute_micros, Times.time_in, declared.time.Time.Time}
use Rattle.irig_law.specs.{Clocks.clock_of, Clocks.end_slack, Clocks.slack_of, Denials.seen_after, Denials.seen_before}
use Rattle.irig_law.specs.Elements.{element_after, element_at, element_before}
use Rattle.irig_law.specs.Hours.{at_hour, at_minute, earlier_by, earlier_in_hour, hour_micros, later_by, later_in_hour}
use Rattle.irig_law.specs.{Law.IsOnFirst, Law.IsOnSecond}
use Rattle.irig_law.specs.Printed.{CountsOn, IsLater, printed, true_time}
use Rattle.irig_law.specs.Rows.{rise_in, row_after, row_before, runs_in}
use Rattle.irig_law.specs.Stories.{Quiet, SentAfter, SentBefore}
use Rattle.irig_law.specs.{Quiet.is_doubtful, Quiet.name_of, Quiet.quiet_of}
use Rattle.irig_law.specs.Stretches.{are_alike, first_of, middle_element, named_after, named_before}
use Rattle.irig_law.specs.Theorem.{BeginTimesAreTrue, EndTimesAreTrue, EventfulTimesAreTrue, QuietTimesAreTrue}
use Rattle.irig_law.specs.declared.{point.Point.Point, frame.Frame.Frame, names.Seen.Seen}
use Rattle.irig_law.specs.declared.names.Seen.TheVariants.{Named, Astray, Unknown}
use Rattle.irig_law.proofs.SentNames.{names_are_sent}

-- the time some periods later, or earlier, is the one that the sender showed
module _ (period q : ℕ) (t u v : Time) (later : 0 < q → IsLater period q t u) where
  abbrev IsU : Option Time → Type 0
  IsU o = o ≡ Some v → v ≡ u

  abbrev IsT : Option Time → Type 0
  IsT o = o ≡ Some v → v ≡ t

  abbrev in-60 : Option Time
  in-60 = if nat_lt (t.micros + q * period) 61000000 then Some (at_minute t (t.micros + q * period)) else None

  abbrev in-hour : Option Time
  in-hour = if nat_lt (hour_micros t + q * period) 3600000000 then Some (at_hour t (hour_micros t + q * period)) else None

  abbrev back-hour : Option Time
  back-hour = if nat_le (q * period) (hour_micros u) then Some (at_hour u (hour_micros u - q * period)) else None

  later-by-is : 0 < q → IsU (later_by (q * period) t)
  later-by-is some = cond_both (nat_le 60000000 t.micros) in-60 in-hour IsU
      (λ on. cond_both (nat_lt (t.micros + q * period) 61000000) (Some (at_minute t (t.micros + q * period))) None IsU
      (λ less is. sym (same_Some (at_minute t (t.micros + q * period)) v is)
      ∙ (later some).on_in_60 (leb-true 60000000 t.micros on) (ltb-true (t.micros + q * period) 61000000 less))
      (λ off is. absurd (none-some v is)))
      (λ off. let less = leb-false 60000000 t.micros off in
      cond_both (nat_lt (hour_micros t + q * period) 3600000000) (Some (at_hour t (hour_micros t + q * period))) None IsU
      (λ on is. sym (same_Some (at_hour t (hour_micros t + q * period)) v is)
      ∙ (later some).on (omega (arith, less)) (ltb-true (hour_micros t + q * period) 3600000000 on))
      (λ off is. absurd (none-some v is)))

  later-is : (q ≡ 0 → t ≡ u) → later_in_hour period q t ≡ Some v → v ≡ u
  later-is same = cond_both (q == 0) (Some t) (later_by (q * period) t) IsU
      (λ on is. sym (same_Some t v is) ∙ same (eqb-true q 0 on))
      (λ off. let isnt = eqb-false q 0 off in later-by-is (omega (arith, isnt)))

  earlier-by-is : 0 < q → IsT (earlier_by (q * period) u)
  earlier-by-is some = cond_both (nat_le (60000000 + q * period) u.micros) (Some (at_minute u (u.micros - q * period))) back-hour IsT
      (λ on is. sym (same_Some (at_minute u (u.micros - q * period)) v is)
      ∙ (later some).back_in_60 (leb-true (60000000 + q * period) u.micros on))
      (λ off. let less = leb-false (60000000 + q * period) u.micros off in
      cond_both (nat_le (q * period) (hour_micros u)) (Some (at_hour u (hour_micros u - q * period))) None IsT
      (λ on is. sym (same_Some (at_hour u (hour_micros u - q * period)) v is)
      ∙ (later some).back less (leb-true (q * period) (hour_micros u) on))
      (λ off is. absurd (none-some v is)))

  earlier-is : (q ≡ 0 → u ≡ t) → earlier_in_hour period q u ≡ Some v → v ≡ t
  earlier-is same = cond_both (q == 0) (Some u) (earlier_by (q * period) u) IsT
      (λ on is. sym (same_Some u v is) ∙ same (eqb-true q 0 on))
      (λ off. let isnt = eqb-false q 0 off in earlier-by-is (omega (arith, isnt)))

mapped : (g : Time → Point) (o : Option Time) (x : Point) → option_map g o ≡ Some x → (t : Time) × (o ≡ Some t) × (g t ≡ x)
mapped g None x is = absurd (none-some x is)
mapped g (Some t) x is = (t, refl, same_Some (g t) x is)

abbrev at-count : Fields → ℕ → Time
at-count g u = record { year = g.year; days = g.days; hours = g.hours; minutes = g.minutes; micros = u }

module _ (f : FormatView) (sent : ℕ → Fields) where
  at-micros : (g : Fields) (n : ℕ) → plus (time_in g 0) n ≡ time_in g n
  at-micros g n =
      let same : minute_micros g + 0 + n ≡ minute_micros g + n = omega arith in
      ap (λ (u : ℕ). at-count g u) same

  is-printed : (t : Time) (e n : ℕ) (x : Point) → t ≡ time_in (sent (n / 100)) 0 → n % 100 ≡ e → element_at e t ≡ x
      → printed f x ≡ true_time f sent n
  is-printed t e n x time element is =
      ap (λ y. printed f y) (sym is)
      ∙ (ap (λ t. plus t (e * interval_of f.kind)) time
      ∙ (at-micros (sent (n / 100)) (e * interval_of f.kind)
      ∙ ap (λ i. time_in (sent (n / 100)) (i * interval_of f.kind)) (sym element)))

  -- elements after a frame's marker, and before one
  after : (a : Frame) (m n e : ℕ) (x : Point) → a.time ≡ time_in (sent m) 0 → (0 < e / 100 → CountsOn f sent m (n / 100))
      → 100 * m + e ≡ n → element_after f a e ≡ Some x → printed f x ≡ true_time f sent n
  after a m n e x shown counts is at =
      let frame : n / 100 ≡ m + e / 100 = omega (arith, is) in
      let gone : n / 100 - m ≡ e / 100 = omega (arith, frame) in
      let u = time_in (sent (n / 100)) 0 in
      let o = mapped (element_at (e % 100)) (later_in_hour (frame_period_of f.kind) (e / 100) a.time) x at in
      let later : 0 < e / 100 → IsLater (frame_period_of f.kind) (e / 100) a.time u = λ more.
      subst (λ q. IsLater (frame_period_of f.kind) q a.time u) gone
      (subst (λ t. IsLater (frame_period_of f.kind) (n / 100 - m) t u) (sym shown)
      (counts more m (n / 100) (omega arith) (omega (arith, frame)) (omega arith))) in
      let none : e / 100 ≡ 0 → a.time ≡ u = λ z. let same : m ≡ n / 100 = omega (arith, z, frame) in shown ∙ ap (λ i. time_in (sent i) 0) same in
      is-printed o.0 (e % 100) n x (later-is (frame_period_of f.kind) (e / 100) a.time u o.0 later none o.1) (omega (arith, is)) o.2

  before : (b : Frame) (m n e : ℕ) (x : Point) → b.time ≡ time_in (sent m) 0 → CountsOn f sent (n / 100) m
      → n + e ≡ 100 * m → element_before f b e ≡ Some x → printed f x ≡ true_time f sent n
  before b m n e x shown counts is at =
      let frame : m ≡ n / 100 + (e + 99) / 100 = omega (arith, is) in
      let gone : m - n / 100 ≡ (e + 99) / 100 = omega (arith, frame) in
      let t = time_in (sent (n / 100)) 0 in
      let o = mapped (element_at ((100 - e % 100) % 100)) (earlier_in_hour (frame_period_of f.kind) ((e + 99) / 100) b.time) x at in
      let later : 0 < (e + 99) / 100 → IsLater (frame_period_of f.kind) ((e + 99) / 100) t b.time = λ more.
      subst (λ q. IsLater (frame_period_of f.kind) q t b.time) gone
      (subst (λ u. IsLater (frame_period_of f.kind) (m - n / 100) t u) (sym shown)
      (counts (n / 100) m (omega arith) (omega (arith, frame)) (omega arith))) in
      let none : (e + 99) / 100 ≡ 0 → b.time ≡ t = λ z. let same : m ≡ n / 100 = omega (arith, z, frame) in shown ∙ ap (λ i. time_in (sent i) 0) same in
      is-printed o.0 ((100 - e % 100) % 100) n x (earlier-is (frame_period_of f.kind) ((e + 99) / 100) t b.time o.0 later none o.1) (omega (arith, is)) o.2

  -- a frame's own pulses
  own : (a : Frame) (m n e : ℕ) (x : Point) → a.time ≡ time_in (sent m) 0 → e < 100 → n ≡ 100 * m + e
      → element_after f a e ≡ Some x → printed f x ≡ true_time f sent n
  own a m n e x shown few is at = after a m n e x shown (λ more. absurd (omega (arith, more, few))) (sym is) at

named-element : (f : FormatView) (a : Frame) (s : Seen) (x : Point) → named_after f a s ≡ Some x
    → (e : ℕ) × (s ≡ Named e) × (element_after f a e ≡ Some x)
named-element f a (Named e) x is = (e, refl, is)
named-element f a Astray x is = absurd (none-some x is)
named-element f a Unknown x is = absurd (none-some x is)

named-element-back : (f : FormatView) (b : Frame) (s : Seen) (x : Point) → named_before f b s ≡ Some x
    → (e : ℕ) × (s ≡ Named e) × (element_before f b e ≡ Some x)
named-element-back f b (Named e) x is = (e, refl, is)
named-element-back f b Astray x is = absurd (none-some x is)
named-element-back f b Unknown x is = absurd (none-some x is)

-- the names of the two rows are numbers of elements
module _ (f : FormatView) (ps : List Pulse) (slack : ℕ) (p : Frame) (last : ℕ) (moment name : ℕ → ℕ) where
  pub sent-after : SentAfter f ps slack p last moment name → (k e : ℕ) → p.marker ≤ k → k - p.marker ≤ last
      → seen_after f ps p slack k ≡ Named e → name p.marker + e ≡ name k
  sent-after sent k e low few is =
      let first : p.marker + 0 ≡ p.marker = omega arith in
      let place : p.marker + (k - p.marker) ≡ k = omega (arith, low) in
      let there = names_are_sent (clock_of f ps p slack) (rise_in ps (row_after p)) (runs_in f ps (row_after p)) moment (λ i. name (p.marker + i)) last sent
      (k - p.marker) e few is in
      let one = ap name first in
      let two = ap name place in
      omega (arith, there, one, two)

  pub sent-before : SentBefore f ps slack p last moment name → (k e : ℕ) → k ≤ p.marker → p.marker - k ≤ last
      → seen_before f ps p slack k ≡ Named e → name k + e ≡ name p.marker
  sent-before sent k e high few is =
      let place : p.marker - (p.marker - k) ≡ k = omega (arith, high) in
      let first : p.marker - 0 ≡ p.marker = omega arith in
      let c = clock_of f ps p slack in
      let names = λ (i : ℕ). name p.marker - name (p.marker - i) in
      let there = names_are_sent c (rise_in ps (row_before p)) (runs_in f ps (row_before p))
      (λ e. moment (name p.marker) - moment (name p.marker - e)) names last sent
      (p.marker - k) e few is in
      let one = ap name first in
      let two = ap name place in
      elim (cases_lt k p.marker) [
        | inl less ↦
            let more = sent.order 0 (p.marker - k) 0 e (omega (arith, less)) few refl is in
            omega (arith, there, one, two, more)
        | inr ge ↦ let same : k ≡ p.marker = omega (arith, ge, high) in let all = ap name same in omega (arith, there, one, two, all)
      ]

-- the elements that carry the time are of one frame
pub time-few : (f : FormatView) → time_elements f.kind ≤ 100
time-few f = by-kind f.kind
  where
    by-kind : (kind : Kind) → time_elements kind ≤ 100
    by-kind A = omega arith
    by-kind B = omega arith
    by-kind E = omega arith
    by-kind G = omega arith

first-is : (o p : Option Point) (x : Point) → first_of o p ≡ Some x → (o ≡ Some x) ⊎ (p ≡ Some x)
first-is None p x is = inr is
first-is (Some y) p x is = inl is

module _ (f : FormatView) (ps : List Pulse) (a b : Frame) (moment name : ℕ → ℕ) (sent : ℕ → Fields) (q : Quiet f ps a b moment name sent)
    (k : ℕ) (x : Point) (low : a.marker ≤ k) (high : k < b.marker + 100) where
  abbrev s : Seen
  s = seen_after f ps a (slack_of ps a b) k

  abbrev t : Seen
  t = seen_before f ps b (slack_of ps a b) k

  abbrev IsTrue : Option Point → Type 0
  IsTrue o = o ≡ Some x → printed f x ≡ true_time f sent (name k)

  by-one : (named_after f a s ≡ Some x) ⊎ (named_before f b t ≡ Some x) → k < b.marker → printed f x ≡ true_time f sent (name k)
  by-one (inl h) less =
      let n = named-element f a s x h in
      let is = sent-after f ps (slack_of ps a b) a (b.marker - a.marker) moment name q.sent_on k n.0 low (omega (arith, less, low)) n.1 in
      let marker = q.shown.marker in
      let top = q.below k n.0 low (omega (arith, less)) n.1 in
      after f sent a q.frame (name k) n.0 x q.shown.time (λ more i j one two three. q.counts i j one two (omega (arith, three, top)))
      (omega (arith, is, marker)) n.2
  by-one (inr h) less =
      let n = named-element-back f b t x h in
      let is = sent-before f ps (slack_of ps a b) b (b.marker - a.marker) moment name q.sent_back k n.0 (omega (arith, less))
      (omega (arith, less, low)) n.1 in
      let marker = q.shown_after.marker in
      let bottom = q.above k n.0 low (omega (arith, less)) n.1 in
      before f sent b q.frame_after (name k) n.0 x q.shown_after.time (λ i j one two three. q.counts i j (omega (arith, one, bottom)) two three)
      (omega (arith, is, marker)) n.2

  in-middle : (whole : ℕ) → k < b.marker → IsTrue (middle_element f a b whole s t)
  in-middle whole less = cond_both (are_alike whole s t) (first_of (named_after f a s) (named_before f b t)) None IsTrue
      (λ on is. by-one (first-is (named_after f a s) (named_before f b t) x is) less)
      (λ off is. absurd (none-some x is))

  abbrev firm-of : (n : ℕ) → (ℕ → Bool) → Option Point
  firm-of n doubtful = if doubtful (name_of (100 * n) s t / 100) then None else middle_element f a b (100 * n) s t

  quiet-true : (n : ℕ) (doubtful : ℕ → Bool) → IsTrue (quiet_of f a b (100 * n) doubtful k s t)
  quiet-true n doubtful = cond_both (nat_lt k (a.marker + 100)) (element_after f a (k - a.marker))
      (if nat_le b.marker k then element_after f b (k - b.marker) else firm-of n doubtful) IsTrue
      (λ on is. let less = ltb-true k (a.marker + 100) on in
      let place : a.marker + (k - a.marker) ≡ k = omega (arith, low) in
      let there = q.whole (k - a.marker) (omega (arith, less, low)) in
      let all = ap name place in
      let marker = q.shown.marker in
      own f sent a q.frame (name k) (k - a.marker) x q.shown.time (omega (arith, less, low)) (omega (arith, there, all, marker)) is)
      (λ off. cond_both (nat_le b.marker k) (element_after f b (k - b.marker)) (firm-of n doubtful) IsTrue
      (λ on is. let ge = leb-true b.marker k on in
      let place : b.marker + (k - b.marker) ≡ k = omega (arith, ge) in
      let there = q.whole_after (k - b.marker) (omega (arith, high, ge)) in
      let all = ap name place in
      let marker = q.shown_after.marker in
      own f sent b q.frame_after (name k) (k - b.marker) x q.shown_after.time (omega (arith, high, ge)) (omega (arith, there, all, marker)) is)
      (λ off. let less = leb-false b.marker k off in
      cond_both (doubtful (name_of (100 * n) s t / 100)) None (middle_element f a b (100 * n) s t) IsTrue
      (λ on is. absurd (none-some x is)) (λ off. in-middle (100 * n) (omega (arith, less)))))

pub quiet_times : QuietTimesAreTrue
quiet_times f century ps a b moment name sent q k x low high quiet =
    quiet-true f ps a b moment name sent q k x low high quiet.periods (is_doubtful f ps a b quiet.periods) quiet.is

pub eventful_times : EventfulTimesAreTrue
eventful_times f century ps a b moment moment_after name sent s k x low few side = by-side side.side
  where
    on-first : IsOnFirst f ps a b k x → printed f x ≡ true_time f sent (name k)
    on-first h = elim (cases_lt s.event h.before.shown.one) [
      | inl late ↦ absurd (s.one_after h.before.shown.one h.before.shown.other late h.before.shown.order h.before.shown.denies h.before.shown.denies_too)
      | inr early ↦
          let lt = h.before.shown.later in
          let n = named-element f a (seen_after f ps a (slack_of ps a b) k) x h.is in
          let is = sent-after f ps (slack_of ps a b) a s.event moment name s.sent_on k n.0 low (omega (arith, early, lt)) n.1 in
          let marker = s.shown.marker in
          after f sent a s.frame (name k) n.0 x s.shown.time (λ more. s.counts k low (omega (arith, early, lt, low))) (omega (arith, is, marker)) n.2
    ]

    of-second : IsOnSecond f ps a b k x → a.marker + s.event < k → printed f x ≡ true_time f sent (name k)
    of-second h passed = cond_both (nat_le k b.marker) (named_before f b (seen_before f ps b (slack_of ps a b) k)) (element_after f b (k - b.marker))
        (λ o. o ≡ Some x → printed f x ≡ true_time f sent (name k))
        (λ on g. let high = leb-true k b.marker on in
        let n = named-element-back f b (seen_before f ps b (slack_of ps a b) k) x g in
        let is = sent-before f ps (slack_of ps a b) b (b.marker - (a.marker + s.event + 1)) moment_after name s.sent_back k n.0 high
        (omega (arith, passed, high)) n.1 in
        let marker = s.whole_after b.marker (omega (arith, passed, high)) (omega arith) (omega arith) in
        before f sent b s.frame_after (name k) n.0 x s.time_after (s.counts_after k passed) (omega (arith, is, marker)) n.2)
        (λ off g. let less = leb-false k b.marker off in
        own f sent b s.frame_after (name k) (k - b.marker) x s.time_after (omega (arith, few, less))
        (s.whole_after k passed (omega (arith, less)) few) g) h.is

    on-second : IsOnSecond f ps a b k x → printed f x ≡ true_time f sent (name k)
    on-second h = elim (cases_lt s.event h.after.shown.other) [
      | inl late ↦ let lt = h.after.shown.earlier in of-second h (omega (arith, late, lt, low))
      | inr early ↦ absurd (s.one_before h.after.shown.one h.after.shown.other h.after.shown.order early h.after.shown.denies h.after.shown.denies_too)
    ]

    at-marker : (k ≡ a.marker) × (element_after f a 0 ≡ Some x) → printed f x ≡ true_time f sent (name k)
    at-marker h =
        let all = ap name h.0 in
        let marker = s.shown.marker in
        own f sent a s.frame (name k) 0 x s.shown.time (omega arith) (omega (arith, all, marker)) h.1

    by-side : ((k ≡ a.marker) × (element_after f a 0 ≡ Some x)) ⊎ (IsOnFirst f ps a b k x ⊎ IsOnSecond f ps a b k x)
        → printed f x ≡ true_time f sent (name k)
    by-side (inl h) = at-marker h
    by-side (inr (inl h)) = on-first h
    by-side (inr (inr h)) = on-second h

pub end_times : EndTimesAreTrue
end_times f ps a moment name sent q k x last = elim (cases_lt a.marker k) [
  | inl after-marker ↦
      let none = last.sure after-marker in
      elim last.in_step [
        | inl less ↦
            let place : a.marker + (k - a.marker) ≡ k = omega (arith, after-marker) in
            let there = q.whole none (k - a.marker) (omega (arith, less)) in
            let all = ap name place in
            let marker = q.shown.marker in
            own f sent a q.frame (name k) (k - a.marker) x q.shown.time (omega (arith, less)) (omega (arith, there, all, marker)) last.is
        | inr steps ↦
            let few = last.few in
            let is = sent-after f ps (end_slack ps a) a 199 moment name (q.sent_on none) k (k - a.marker) last.from (omega (arith, few))
            (steps k last.from (omega arith)) in
            let marker = q.shown.marker in
            after f sent a q.frame (name k) (k - a.marker) x q.shown.time (λ more. q.counts none k last.from few) (omega (arith, is, marker)) last.is
      ]
  | inr at-marker ↦
      let from = last.from in
      let same : k ≡ a.marker = omega (arith, at-marker, from) in
      let all = ap name same in
      let marker = q.shown.marker in
      own f sent a q.frame (name k) (k - a.marker) x q.shown.time (omega (arith, same)) (omega (arith, all, marker, same)) last.is
]

pub begin_times : BeginTimesAreTrue
begin_times f ps b moment name sent q k x first = elim first.is [
  | inl h ↦
      let ge = h.0 in
      let few = first.to in
      let te = time-few f in
      let place : b.marker + (k - b.marker) ≡ k = omega (arith, ge) in
      let there = q.whole first.sure (k - b.marker) (omega (arith, few, ge, te)) in
      let all = ap name place in
      let marker = q.shown.marker in
      own f sent b q.frame (name k) (k - b.marker) x q.shown.time (omega (arith, few, ge, te)) (omega (arith, there, all, marker)) h.1
  | inr h ↦
      let less = h.0 in
      let few = first.few in
      let is = sent-before f ps (end_slack ps b) b 100 moment name (q.sent_back first.sure) k (b.marker - k) (omega (arith, less)) (omega (arith, few))
      (h.1 k (omega arith) (omega (arith, less))) in
      let marker = q.shown.marker in
      before f sent b q.frame (name k) (b.marker - k) x q.shown.time (q.counts first.sure k few (omega (arith, less))) (omega (arith, is, marker)) h.2
]
