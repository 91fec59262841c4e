-- The frame of each element of a track has a time of the calendar, as the believed frames have.
use Rattle.std.proofs.Common.{◌≡◌, inl, inr, ◌<◌, ◌≤◌, ◌+◌, ◌-◌, ◌*◌, ◌/◌, ◌==◌, ◌||◌, nat_le, nat_lt, ℕ, zero, suc, Bool, true, false, cond, List, [], ◌∷◌, length, map, slice_get, get_or, Option, Some, None, arith, refl, ap, ◌∙◌, subst}
use Rattle.std.specs.Prelude.{is_some, option_map}
use Rattle.std.proofs.lemmas.Bool.{cases_lt, cond_both, ltb-true}
use Rattle.std.proofs.lemmas.Option.{none-some, same_Some, slice_get-get_or, slice_get_within}
use Rattle.irig_codes.specs.{Format.FormatView, Format.frame_period_of, Format.has_year, declared.fields.Fields.Fields}
use Rattle.irig_recording.specs.declared.pulse.Pulse.{Pulse}
use Rattle.irig_index.specs.{Frames.frame_at, Frames.frames, declared.record.Record.Record}
use Rattle.irig_times.specs.{Times.IsOfCalendar, Times.time_in, Times.timed, declared.time.Time.Time}
use Rattle.irig_times.proofs.{Calendar.of-calendar, Records.frame-reads}
use Rattle.irig_law.specs.{Believed.believed, Believed.believed_in, Believed.chain_after, Believed.kept, Believed.kept_from, Believed.with_frame}
use Rattle.irig_law.specs.{Chains.chains_of, Ends.IsBeforeFirst, Chains.fine_frames, Chains.fine_in, Chains.with_fine, Law.IsBetween, OfOne.is_right, Points.IsPoint}
use Rattle.irig_law.specs.{Elements.element_after, Elements.element_at, Elements.element_before, Hours.at_hour, Hours.at_minute}
use Rattle.irig_law.specs.{Hours.earlier_by, Hours.earlier_in_hour, Hours.hour_micros, Hours.later_by, Hours.later_in_hour}
use Rattle.irig_law.specs.Stretches.{are_alike, by_second, first_of, middle_element, named_after, named_before}
use Rattle.irig_law.specs.Quiet.{is_doubtful, name_of, quiet_of}
use Rattle.irig_law.specs.{Clocks.slack_of, Denials.seen_after, Denials.seen_before}
use Rattle.irig_law.specs.declared.{fine.Fine.Fine, frame.Frame.Frame, names.Seen.Seen, point.Point.Point}
use Rattle.irig_law.specs.declared.names.Seen.TheVariants.{Astray, Named, Unknown}

-- a time of the calendar, with a year if frames carry one
abbrev pub InCalendar : FormatView → Time → Type 0
InCalendar f x = IsOfCalendar x × (is_some x.year ≡ has_year f.expression)

module _ (f : FormatView) where
  hour-calendar : (t : Time) (w : ℕ) → InCalendar f t → w < 3600000000 → InCalendar f (at_hour t w)
  hour-calendar t w h low = (
    record { year = h.0.year; first = h.0.first; days = h.0.days; hours = h.0.hours; minutes = omega (arith, low) },
    h.1,
  )

  -- what is given has a frame of the calendar
  abbrev Gives : Option Point → Type 0
  Gives o = (x : Point) → o ≡ Some x → InCalendar f x.frame

  abbrev GivesTime : Option Time → Type 0
  GivesTime o = (t : Time) → o ≡ Some t → InCalendar f t

  gives-none : Gives None
  gives-none x e = absurd (none-some x e)

  gives-if : (b : Bool) (o p : Option Point) → Gives o → Gives p → Gives (cond b o p)
  gives-if true o p h k = h
  gives-if false o p h k = k

  gives-at : (e : ℕ) (o : Option Time) → GivesTime o → Gives (option_map (element_at e) o)
  gives-at e None h x is = absurd (none-some x is)
  gives-at e (Some t) h x is = subst (λ (y : Point). InCalendar f y.frame) (same_Some (element_at e t) x is) (h t refl)

  some-time : (t u : Time) → InCalendar f t → Some t ≡ Some u → InCalendar f u
  some-time t u h e = subst (InCalendar f) (same_Some t u e) h

  time-if : (b : Bool) (t : Time) → (b ≡ true → InCalendar f t) → GivesTime (cond b (Some t) None)
  time-if true t h u e = some-time t u (h refl) e
  time-if false t h u e = absurd (none-some u e)

  time-or : (b : Bool) (t : Time) (o : Option Time) → InCalendar f t → GivesTime o → GivesTime (cond b (Some t) o)
  time-or true t o h k u e = some-time t u h e
  time-or false t o h k u e = k u e

  minute-calendar : (t : Time) (w : ℕ) → InCalendar f t → InCalendar f (at_minute t w)
  minute-calendar t w h = (
    record { year = h.0.year; first = h.0.first; days = h.0.days; hours = h.0.hours; minutes = h.0.minutes },
    h.1,
  )

  later-calendar : (period q : ℕ) (t : Time) → InCalendar f t → GivesTime (later_in_hour period q t)
  later-calendar period q t h = time-or (q == 0) t (later_by (q * period) t) h (by (q * period))
    where
      by : (micros : ℕ) → GivesTime (later_by micros t)
      by micros =
          let w = hour_micros t + micros in
          let within = nat_lt (t.micros + micros) 61000000 in
          let inside = nat_lt w 3600000000 in
          cond_both (nat_le 60000000 t.micros) (cond within (Some (at_minute t (t.micros + micros))) None) (cond inside (Some (at_hour t w)) None) GivesTime
          (λ on. time-if within (at_minute t (t.micros + micros)) (λ yes'. minute-calendar t (t.micros + micros) h))
          (λ off. time-if inside (at_hour t w) (λ yes'. hour-calendar t w h (ltb-true w 3600000000 yes')))

  not-le : (a b : ℕ) → nat_le a b ≡ false → b < a
  not-le a b h = grind (arith, h)

  earlier-calendar : (period q : ℕ) (t : Time) → InCalendar f t → GivesTime (earlier_in_hour period q t)
  earlier-calendar period q t h = time-or (q == 0) t (earlier_by (q * period) t) h (by (q * period))
    where
      less : (micros : ℕ) → t.micros < 60000000 + micros → hour_micros t - micros < 3600000000
      less micros low = omega (arith, low, h.0.minutes)

      by : (micros : ℕ) → GivesTime (earlier_by micros t)
      by micros =
          let w = hour_micros t - micros in
          let inside = nat_le micros (hour_micros t) in
          cond_both (nat_le (60000000 + micros) t.micros) (Some (at_minute t (t.micros - micros))) (cond inside (Some (at_hour t w)) None) GivesTime
          (λ on u e. some-time (at_minute t (t.micros - micros)) u (minute-calendar t (t.micros - micros) h) e)
          (λ off. time-if inside (at_hour t w) (λ yes'. hour-calendar t w h (less micros (not-le (60000000 + micros) t.micros off))))

  after-gives : (a : Frame) (e : ℕ) → InCalendar f a.time → Gives (element_after f a e)
  after-gives a e h = gives-at _ _ (later-calendar (frame_period_of f.kind) (e / 100) a.time h)

  before-gives : (b : Frame) (e : ℕ) → InCalendar f b.time → Gives (element_before f b e)
  before-gives b e h = gives-at _ _ (earlier-calendar (frame_period_of f.kind) ((e + 99) / 100) b.time h)

  named-after-gives : (a : Frame) (s : Seen) → InCalendar f a.time → Gives (named_after f a s)
  named-after-gives a (Named e) h = after-gives a e h
  named-after-gives a Astray h = gives-none
  named-after-gives a Unknown h = gives-none

  named-before-gives : (b : Frame) (s : Seen) → InCalendar f b.time → Gives (named_before f b s)
  named-before-gives b (Named e) h = before-gives b e h
  named-before-gives b Astray h = gives-none
  named-before-gives b Unknown h = gives-none

  first-gives : (o p : Option Point) → Gives o → Gives p → Gives (first_of o p)
  first-gives None p h k = k
  first-gives (Some y) p h k = h

  middle-gives : (a b : Frame) (whole : ℕ) (s t : Seen) → InCalendar f a.time → InCalendar f b.time → Gives (middle_element f a b whole s t)
  middle-gives a b whole s t h g =
      gives-if (are_alike whole s t) (first_of (named_after f a s) (named_before f b t)) None
      (first-gives (named_after f a s) (named_before f b t) (named-after-gives a s h) (named-before-gives b t g)) gives-none

  quiet-gives : (a b : Frame) (whole : ℕ) (doubtful : ℕ → Bool) (k : ℕ) (s t : Seen) → InCalendar f a.time → InCalendar f b.time
      → Gives (quiet_of f a b whole doubtful k s t)
  quiet-gives a b whole doubtful k s t h g =
      gives-if (nat_lt k (a.marker + 100)) (element_after f a (k - a.marker)) _ (after-gives a (k - a.marker) h)
      (gives-if (nat_le b.marker k) (element_after f b (k - b.marker)) _ (after-gives b (k - b.marker) g)
      (gives-if (doubtful (name_of whole s t / 100)) None (middle_element f a b whole s t) gives-none (middle-gives a b whole s t h g)))

  second-gives : (b : Frame) (k : ℕ) (t : Seen) → InCalendar f b.time → Gives (by_second f b k t)
  second-gives b k t g =
      gives-if (nat_le k b.marker) (named_before f b t) (element_after f b (k - b.marker)) (named-before-gives b t g) (after-gives b (k - b.marker) g)

  between-gives : (century : ℕ) (ps : List Pulse) (a b : Frame) (k : ℕ) (x : Point) → InCalendar f a.time → InCalendar f b.time
      → IsBetween f century ps a b k x → InCalendar f x.frame
  between-gives century ps a b k x h g is =
      let s = seen_after f ps a (slack_of ps a b) k in
      let t = seen_before f ps b (slack_of ps a b) k in
      elim is.is [
        | inl q ↦ quiet-gives a b (100 * q.periods) (is_doubtful f ps a b q.periods) k s t h g x q.is
        | inr q ↦ elim q.side [
          | inl m ↦ after-gives a 0 h x m.1
          | inr on ↦ elim on [
            | inl z ↦ named-after-gives a s h x z.is
            | inr z ↦ second-gives b k t g x z.is
          ]
        ]
      ]

  -- the frames that are believed
  module _ (P : Frame → Type 0) where
    abbrev EachFine : List Fine → Type 0
    EachFine [] = Unit {0}
    EachFine (x ∷ xs) = P x.frame × EachFine xs

    abbrev Each : List Frame → Type 0
    Each [] = Unit {0}
    Each (x ∷ xs) = P x × Each xs

    with-each : (right : Bool) (x : Fine) (rest : List Frame) → P x.frame → Each rest → Each (with_frame right x rest)
    with-each true x rest p h = (p, h)
    with-each false x rest p h = h

    kept-from-each : (century : ℕ) (right : ℕ → Bool) (n : ℕ) (before : Fine) (xs : List Fine) → EachFine xs → Each (kept_from f century right n before xs)
    kept-from-each century right n before [] h = tt
    kept-from-each century right n before (x ∷ xs) h =
        let m = chain_after f century n before x in
        with-each (right m) x (kept_from f century right m x xs) h.0 (kept-from-each century right m x xs h.1)

    kept-each : (century : ℕ) (right : ℕ → Bool) (xs : List Fine) → EachFine xs → Each (kept f century right xs)
    kept-each century right [] h = tt
    kept-each century right (x ∷ xs) h = with-each (right 0) x (kept_from f century right 0 x xs) h.0 (kept-from-each century right 0 x xs h.1)

    all-each : (xs : List Fine) → EachFine xs → Each (map (λ (x : Fine). x.frame) xs)
    all-each [] h = tt
    all-each (x ∷ xs) h = (h.0, all-each xs h.1)

    believed-each : (alone : Bool) (century : ℕ) (xs : List Fine) → EachFine xs → Each (believed_in f alone century xs)
    believed-each alone century xs h = cond_both (alone || (length xs == 1)) (map (λ (x : Fine). x.frame) xs)
        (kept f century (is_right f century (chains_of f century xs)) xs) Each
        (λ on. all-each xs h) (λ off. kept-each century (is_right f century (chains_of f century xs)) xs h)

    each-at : (xs : List Frame) → Each xs → (i : ℕ) (a : Frame) → slice_get xs i ≡ Some a → P a
    each-at [] h i a at = absurd (none-some a at)
    each-at (x ∷ xs) h zero a at = subst P (same_Some x a at) h.0
    each-at (x ∷ xs) h (suc i) a at = each-at xs h.1 i a at

  abbrev HasCalendar : Frame → Type 0
  HasCalendar a = InCalendar f a.time

  -- each record of some that is read has such fields
  abbrev AreRead : List Record → Type 0
  AreRead rs = (k : ℕ) (r : Record) (g : Fields) → slice_get rs k ≡ Some r → timed f r.verdict ≡ Some g → InCalendar f (time_in g 0)

  with-fine-each : (ps : List Pulse) (marker : ℕ) (o : Option Fields) (rest : List Fine) → ((g : Fields) → o ≡ Some g → InCalendar f (time_in g 0))
      → EachFine HasCalendar rest → EachFine HasCalendar (with_fine ps marker o rest)
  with-fine-each ps marker None rest h k = k
  with-fine-each ps marker (Some g) rest h k = (h g refl, k)

  fine-each : (ps : List Pulse) (rs : List Record) → AreRead rs → EachFine HasCalendar (fine_in f ps rs)
  fine-each ps [] h = tt
  fine-each ps (r ∷ rs) h =
      with-fine-each ps r.marker (timed f r.verdict) (fine_in f ps rs) (λ g is. h 0 r g refl is)
      (fine-each ps rs (λ k s g at is. h (suc k) s g at is))

  pub believed-calendar : (alone : Bool) (century : ℕ) (ps : List Pulse) (i : ℕ) (a : Frame) → slice_get (believed f alone century ps) i ≡ Some a
      → InCalendar f a.time
  believed-calendar alone century ps i a at =
      let read : AreRead (frames f ps) = λ (k : ℕ) (r : Record) (g : Fields) (here : slice_get (frames f ps) k ≡ Some r) (is : timed f r.verdict ≡ Some g).
      of-calendar f (frame_at ps r.marker) g (frame-reads f ps k r g here is) (time_in g 0) refl refl refl refl in
      each-at HasCalendar (believed f alone century ps)
      (believed-each HasCalendar alone century (fine_frames f ps) (fine-each ps (frames f ps) read)) i a at

  -- an element by some frames of the calendar
  module _ (century : ℕ) (ps : List Pulse) (frames : List Frame) (all : (i : ℕ) (a : Frame) → slice_get frames i ≡ Some a → InCalendar f a.time)
      (k : ℕ) (x : Point) (is : IsPoint f century ps frames k x) where
    begin-calendar : (b : Frame) → InCalendar f b.time → IsBeforeFirst f ps b k x → InCalendar f x.frame
    begin-calendar b h g = elim g.is [
      | inl on ↦ after-gives b (k - b.marker) h x on.1
      | inr on ↦ before-gives b (b.marker - k) h x on.2
    ]

    in-stretch : (i : ℕ) (a b : Frame) → slice_get frames i ≡ Some a → slice_get frames (i + 1) ≡ Some b → a.marker ≤ k → k < b.marker → InCalendar f x.frame
    in-stretch i a b at next low high =
        let between = is.said.between i a b (let inside = slice_get_within frames (i + 1) b next in omega (arith, inside)) at next low (omega (arith, high)) in
        between-gives century ps a b k x (all i a at) (all (i + 1) b next) between

    before-frame : (i : ℕ) (b : Frame) → slice_get frames i ≡ Some b → k < b.marker → InCalendar f x.frame
    before-frame zero b at high = begin-calendar b (all 0 b at) (is.said.begin b at (omega (arith, high)))
    before-frame (suc i) b at high =
        let inside = slice_get_within frames (suc i) b at in
        let there = slice_get-get_or frames i b (omega (arith, inside)) in
        let next : i + 1 ≡ suc i = omega arith in
        elim (cases_lt k (get_or frames i b).marker) [
          | inl less ↦ before-frame i (get_or frames i b) there less
          | inr ge ↦ in-stretch i (get_or frames i b) b there (ap (slice_get frames) next ∙ at) ge high
        ]

    by-last : (n : ℕ) → n + 1 ≡ length frames → (a : Frame) → slice_get frames n ≡ Some a → InCalendar f x.frame
    by-last n last a at = elim (cases_lt k a.marker) [
      | inl less ↦ before-frame n a at less
      | inr ge ↦ after-gives a (k - a.marker) (all n a at) x (is.end n a last at ge).is
    ]

    some-frame : (l : List Frame) → 0 < length l → Frame
    some-frame [] some = absurd (omega (arith, some))
    some-frame (a ∷ l) some = a

    pub point-calendar : InCalendar f x.frame
    point-calendar =
        let some = is.some in
        let d = some-frame frames some in
        let n = length frames - 1 in
        by-last n (omega (arith, some)) (get_or frames n d) (slice_get-get_or frames n d (omega (arith, some)))
