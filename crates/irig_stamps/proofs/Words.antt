-- The word of a recorder's time.
use Rattle.std.proofs.Common.{◌≡◌, ◌↔◌, ℕ, Bool, true, false, ◌+◌, ◌-◌, ◌/◌, ◌^◌, ◌<◌, ◌≤◌, ◌++◌, List, [], ◌∷◌, Option, Some, None, min, refl, sym, ap, ◌∙◌, inl, inr, subst, arith}
use Rattle.std.proofs.lemmas.{Bool.cases_lt, Option.none-some, Option.same_Some}
use Rattle.std.specs.Prelude.{option_map, if◌then◌else◌}
use Rattle.irig_codes.specs.Format.{FormatView}
use Rattle.irig_recording.specs.declared.pulse.Pulse.{Pulse}
use Rattle.irig_track.specs.Track.{IsLongTrack}
use Rattle.irig_track.specs.Splices.{risen_by}
use Rattle.irig_times.specs.declared.why.Why.TheVariants.{Before}
use Rattle.irig_times.specs.{declared.time.Time.Time, declared.why.Why.Why}
use Rattle.irig_timed.specs.{Moments.IsMomentOf, Moments.IsTimed, Reasons.IsWhy, declared.moment.Moment.Moment}
use Rattle.irig_stamps.specs.{Numbers.capped, Reasons.why_text, Stamps.IsNone, Stamps.IsTimeOf, Stamps.IsWhyOf, Stamps.IsWord, Stamps.added, Stamps.taken}
use Rattle.irig_stamps.specs.Offs.{cell, timed_word}
use Rattle.irig_stamps.specs.{declared.picos.Picos.Picos, declared.settings.Settings.Settings}
use Rattle.irig_stamps.proofs.Late.{all-risen, none-late}

-- a time is that of a moment between two pulses
pub timed-moment : (f : FormatView) (alone : Bool) (century : ℕ) (ps : List Pulse) (d n : ℕ) (x : Time) → IsTimed f alone century ps d n x
    → (y : Moment) × IsMomentOf f alone century ps d n y
timed-moment f alone century ps d n x (bound, h) =
    (record { time = x; bound = bound; from = h.from.number; to = h.to.number }, (h, refl, refl))

module _ (f : FormatView) (alone : Bool) (century : ℕ) (ps : List Pulse) (d n : ℕ) (result : Option Moment)
    (exact : (x : Moment) → (result ≡ Some x) ↔ IsMomentOf f alone century ps d n x) where
  pub timed-none : result ≡ None → (x : Time) → IsTimed f alone century ps d n x → ⊥
  timed-none is x h = (let m = timed-moment f alone century ps d n x h in none-some m.0 (sym is ∙ (exact m.0).1 m.1))

pub timed-there : (f : FormatView) (alone : Bool) (century : ℕ) (ps : List Pulse) (d n : ℕ) (result : Option Moment)
    → ((x : Moment) → (result ≡ Some x) ↔ IsMomentOf f alone century ps d n x) → (result ≡ None → ⊥)
    → (x : Time) × IsTimed f alone century ps d n x
timed-there f alone century ps d n None exact some = absurd (some refl)
timed-there f alone century ps d n (Some m) exact some = (m.time, (m.bound, ((exact m).0 refl).0))

module _ (f : FormatView) (ps : List Pulse) (s : Settings) where
  -- the words of a moment that was found
  pub word-time : (picos : Picos) (y : Moment) (word : List ℕ) (result : Option Moment) → result ≡ Some y
      → ((v : Picos) → picos ≡ capped v → (x : Moment) → (result ≡ Some x) ↔ IsTimeOf f ps s v x)
      → word ≡ timed_word f ps s y
      → (number : Option Picos) → Some picos ≡ option_map capped number → IsWord f ps s number word
  word-time picos y word result is h text None e = absurd (none-some picos (sym e))
  word-time picos y word result is h text (Some v) e =
      let k = h v (same_Some picos (capped v) e) in
      (λ x t. text ∙ ap (timed_word f ps s) (same_Some y x (sym is ∙ (k x).1 t)), λ none. absurd (none y ((k y).0 is)))

  -- the word of no time
  pub word-untimed : (picos : Picos) (word : List ℕ) (result : Option Moment) → result ≡ None
      → ((v : Picos) → picos ≡ capped v → (x : Moment) → (result ≡ Some x) ↔ IsTimeOf f ps s v x)
      → ((v : Picos) → picos ≡ capped v → IsNone s.why f ps s v word)
      → (number : Option Picos) → Some picos ≡ option_map capped number → IsWord f ps s number (word ++ cell s (45 ∷ []))
  word-untimed picos word result is h why None e = absurd (none-some picos (sym e))
  word-untimed picos word result is h why (Some v) e =
      let same = same_Some picos (capped v) e in
      let k = h v same in
      (λ x t. absurd (none-some x (sym is ∙ (k x).1 t)), λ none. (word, why v same, refl))

  pub word-none : (number : Option Picos) → None ≡ option_map capped number → IsWord f ps s number (45 ∷ [] ++ cell s (45 ∷ []))
  word-none None e = refl
  word-none (Some v) e = absurd (none-some (capped v) e)

  -- the word of a reason, if it is asked for
  pub none-why : (asked : Bool) (v : Picos) (why : Why) (word : List ℕ) → true ≡ asked → IsWhyOf f ps s v why → word ≡ why_text why → IsNone asked f ps s v word
  none-why true v why word e is text = (why, is, text)
  none-why false v why word e is text = absurd (cc e)

  pub none-hyphen : (asked : Bool) (v : Picos) → false ≡ asked → IsNone asked f ps s v (45 ∷ [])
  none-hyphen true v e = absurd (cc e)
  none-hyphen false v e = refl

  -- a time with a sign, and one with the greatest size instead
  near-same : (early negative : Bool) (size offset add take : ℕ) → offset ≤ 2 ^ 119
      → add ≡ min ((if negative then 0 else min size (2 ^ 120)) + (if early then offset else 0)) (2 ^ 128 - 1)
      → take ≡ min ((if negative then min size (2 ^ 120) else 0) + (if early then 0 else offset)) (2 ^ 128 - 1)
      → take ≤ add → add - take < 2 ^ 62
      → (add ≡ (if negative then 0 else size) + (if early then offset else 0))
      × (take ≡ (if negative then size else 0) + (if early then 0 else offset))
  near-same true true size offset add take small a t le near = (omega (arith, small, a, t, le, near), omega (arith, small, a, t, le, near))
  near-same true false size offset add take small a t le near = (omega (arith, small, a, t, le, near), omega (arith, small, a, t, le, near))
  near-same false true size offset add take small a t le near = (omega (arith, small, a, t, le, near), omega (arith, small, a, t, le, near))
  near-same false false size offset add take small a t le near = (omega (arith, small, a, t, le, near), omega (arith, small, a, t, le, near))

  late-late : (early negative : Bool) (size offset add take : ℕ) → offset ≤ 2 ^ 119
      → add ≡ min ((if negative then 0 else min size (2 ^ 120)) + (if early then offset else 0)) (2 ^ 128 - 1)
      → take ≡ min ((if negative then min size (2 ^ 120) else 0) + (if early then 0 else offset)) (2 ^ 128 - 1)
      → 2 ^ 62 ≤ add - take
      → ((if negative then 0 else size) + (if early then offset else 0)) - ((if negative then size else 0) + (if early then 0 else offset)) < 2 ^ 61 → ⊥
  late-late true true size offset add take small a t late less = omega (arith, small, a, t, late, less)
  late-late true false size offset add take small a t late less = omega (arith, small, a, t, late, less)
  late-late false true size offset add take small a t late less = omega (arith, small, a, t, late, less)
  late-late false false size offset add take small a t late less = omega (arith, small, a, t, late, less)

  before-before : (early negative : Bool) (size offset add take : ℕ) → offset ≤ 2 ^ 119
      → add ≡ min ((if negative then 0 else min size (2 ^ 120)) + (if early then offset else 0)) (2 ^ 128 - 1)
      → take ≡ min ((if negative then min size (2 ^ 120) else 0) + (if early then 0 else offset)) (2 ^ 128 - 1)
      → add < take → (if negative then size else 0) + (if early then 0 else offset) ≤ (if negative then 0 else size) + (if early then offset else 0) → ⊥
  before-before true true size offset add take small a t lt le = omega (arith, small, a, t, lt, le)
  before-before true false size offset add take small a t lt le = omega (arith, small, a, t, lt, le)
  before-before false true size offset add take small a t lt le = omega (arith, small, a, t, lt, le)
  before-before false false size offset add take small a t lt le = omega (arith, small, a, t, lt, le)

  -- what the code adds and takes off
  abbrev pub Spans : Picos → ℕ → ℕ → Type 0
  Spans picos add take = (add ≡ min (added s picos) (2 ^ 128 - 1)) × (take ≡ min (taken s picos) (2 ^ 128 - 1))

  spans-capped : (picos v : Picos) (add take : ℕ) → picos ≡ capped v → Spans picos add take → Spans (capped v) add take
  spans-capped picos v add take e h = subst (λ (p : Picos). Spans p add take) e h

  -- before the start of the track there is no time
  pub time-before : (picos : Picos) (add take : ℕ) → s.offset ≤ 2 ^ 119 → Spans picos add take → add < take
      → (v : Picos) → picos ≡ capped v → (x : Moment) → (None ≡ Some x) ↔ IsTimeOf f ps s v x
  time-before picos add take small h lt v e x =
      let k = spans-capped picos v add take e h in
      (λ is. absurd (none-some x is), λ is. absurd (before-before s.early v.negative v.size s.offset add take small k.0 k.1 lt is.0))

  -- a time that is too late has none
  pub time-late : (micros : ℕ) (picos : Picos) (add take : ℕ) → IsLongTrack micros ps → s.offset ≤ 2 ^ 119 → Spans picos add take → 2 ^ 62 ≤ add - take
      → (v : Picos) → picos ≡ capped v → (x : Moment) → (None ≡ Some x) ↔ IsTimeOf f ps s v x
  time-late micros picos add take track small h late v e x =
      let k = spans-capped picos v add take e h in (
        λ is. absurd (none-some x is),
        λ is. absurd (late-late s.early v.negative v.size s.offset add take small k.0 k.1 late
            (none-late f s.alone s.century micros ps track (added s v - taken s v) x.time (x.bound, is.1.0))),
      )

  -- each greatest number has no time, so it stands for all that are further from zero
  pub time-exact : (picos : Picos) (add take : ℕ) (result : Option Moment) → s.offset ≤ 2 ^ 119 → Spans picos add take → take ≤ add → add - take < 2 ^ 62
      → ((x : Moment) → (result ≡ Some x) ↔ IsMomentOf f s.alone s.century ps 1000000 (add - take) x)
      → (v : Picos) → picos ≡ capped v → (x : Moment) → (result ≡ Some x) ↔ IsTimeOf f ps s v x
  time-exact picos add take result small h le near is v e x =
      let k = spans-capped picos v add take e h in
      let same = near-same s.early v.negative v.size s.offset add take small k.0 k.1 le near in
      let span : add - take ≡ added s v - taken s v = omega (arith, same.0, same.1) in (
        λ r. (omega (arith, same.0, same.1, le), subst (λ n. IsMomentOf f s.alone s.century ps 1000000 n x) span ((is x).0 r)),
        λ t. (is x).1 (subst (λ n. IsMomentOf f s.alone s.century ps 1000000 n x) (sym span) t.1),
      )

  -- the reason before the start of the track
  pub why-before : (picos : Picos) (add take : ℕ) → s.offset ≤ 2 ^ 119 → Spans picos add take → add < take
      → (v : Picos) → picos ≡ capped v → IsWhyOf f ps s v Before
  why-before picos add take small h lt v e =
      let k = spans-capped picos v add take e h in
      elim (cases_lt (added s v) (taken s v)) [
        | inl less ↦ inl (less, refl)
        | inr le ↦ absurd (before-before s.early v.negative v.size s.offset add take small k.0 k.1 lt le)
      ]

  -- the reason within 2^62 picoseconds
  pub why-exact : (picos : Picos) (add take : ℕ) (why : Why) → s.offset ≤ 2 ^ 119 → Spans picos add take → take ≤ add → add - take < 2 ^ 62
      → IsWhy f s.alone s.century ps (risen_by ((add - take) / 1000000) ps) why → (v : Picos) → picos ≡ capped v → IsWhyOf f ps s v why
  why-exact picos add take why small h le near is v e =
      let k = spans-capped picos v add take e h in
      let same = near-same s.early v.negative v.size s.offset add take small k.0 k.1 le near in
      let span : add - take ≡ added s v - taken s v = omega (arith, same.0, same.1) in
      inr (omega (arith, same.0, same.1, le), subst (λ n. IsWhy f s.alone s.century ps (risen_by (n / 1000000) ps) why) span is)

  -- the reason later than that
  pub why-late : (micros : ℕ) (picos : Picos) (add take : ℕ) (why : Why) → IsLongTrack micros ps → s.offset ≤ 2 ^ 119 → Spans picos add take
      → 2 ^ 62 ≤ add - take
      → IsWhy f s.alone s.century ps (risen_by (4611686018427387904 / 1000000) ps) why → (v : Picos) → picos ≡ capped v → IsWhyOf f ps s v why
  why-late micros picos add take why track small h late is v e =
      let k = spans-capped picos v add take e h in
      let since = added s v - taken s v in
      elim (cases_lt since (2 ^ 61)) [
        | inl less ↦ absurd (late-late s.early v.negative v.size s.offset add take small k.0 k.1 late less)
        | inr far ↦
            let end : 2 ^ 40 ≤ since / 1000000 = omega (arith, far) in
            let same = all-risen micros (4611686018427387904 / 1000000) ps track (omega arith) ∙ sym (all-risen micros (since / 1000000) ps track end) in
            inr (omega (arith, far), subst (λ n. IsWhy f s.alone s.century ps n why) same is)
      ]
