-- Between two rises all moments have a time, or none has, for one reason.
use Rattle.std.proofs.Common.{◌≡◌, ◌+◌, ◌*◌, ◌/◌, ◌<◌, ◌≤◌, ℕ, Bool, List, Some, inl, inr, refl, sym, ◌∙◌, subst, arith}
use Rattle.std.specs.Prelude.{slice_get, length}
use Rattle.std.proofs.Math.Nat.{lt-mul-div-succ, mul-div-le, mul-le-mul_left}
use Rattle.std.proofs.lemmas.Bool.{cases_lt}
use Rattle.irig_codes.specs.Format.{FormatView}
use Rattle.irig_recording.specs.declared.pulse.Pulse.{Pulse}
use Rattle.irig_track.specs.{Splices.risen_by, Track.IsTrackUpTo}
use Rattle.irig_track.proofs.Searches.{risen_above, risen_below, risen_by-le}
use Rattle.irig_timed.specs.{Around.AreAround, Moments.IsElement, Moments.IsTimed, Moments.frames_by, Reasons.HasNoTime, Reasons.IsWhy}
use Rattle.irig_times.specs.{declared.time.Time.Time, declared.why.Why.Why}
use Rattle.irig_stamps.specs.Holes.{HasBegun, IsBetween}

module _ (f : FormatView) (alone : Bool) (century : ℕ) (ps : List Pulse) (d n e m : ℕ) (same : risen_by (n / d) ps ≡ risen_by (m / e) ps) where
  pub moved : (x : Time) → IsTimed f alone century ps d n x → (y : Time) × IsTimed f alone century ps e m y
  moved x a = (
    _,
    (
      a.0,
      record {
        from = a.1.from;
        to = a.1.to;
        point = a.1.point;
        next = a.1.next;
        around = subst (λ (risen : ℕ). AreAround (IsElement f century ps (frames_by f alone century ps)) risen (Some a.1.from) (Some a.1.to)) same a.1.around;
        stands = a.1.stands;
        stands_next = a.1.stands_next;
        line = a.1.line;
        is = refl;
      },
    ),
  )

-- a moment of a stretch is in a microsecond of it
in-stretch : (d n begin end : ℕ) → 0 < d → d * begin ≤ n → n < d * end → (begin ≤ n / d) × (n / d < end)
in-stretch d n begin end some from to = (low, high) where
  low : begin ≤ n / d
  low = elim (cases_lt (n / d) begin) [
    | inl lt ↦ (let up : n / d + 1 ≤ begin = omega (arith, lt) in absurd (omega (arith, from, lt-mul-div-succ n some, mul-le-mul_left d up)))
    | inr le ↦ le
  ]

  high : n / d < end
  high = elim (cases_lt (n / d) end) [
    | inl lt ↦ lt
    | inr le ↦ absurd (omega (arith, to, mul-div-le n d, mul-le-mul_left d le))
  ]

module _ (f : FormatView) (alone : Bool) (century : ℕ) (ps : List Pulse) (risen begin end : ℕ) (between : IsBetween ps risen begin end)
    (some : begin < end) where
  risen-in : (d n : ℕ) → 0 < d → d * begin ≤ n → n < d * end → risen_by (n / d) ps ≡ risen
  risen-in d n pos from to = let at = in-stretch d n begin end pos from to in between (n / d) at.0 at.1

  risen-first : risen_by (1000000 * begin / 1000000) ps ≡ risen
  risen-first = risen-in 1000000 (1000000 * begin) (omega arith) (omega arith) (omega (arith, some))

  pub all-timed : (x : Time) → IsTimed f alone century ps 1000000 (1000000 * begin) x → (d n : ℕ) (why : Why) → 0 < d → d * begin ≤ n
      → n < d * end → HasNoTime f alone century ps d n why → ⊥
  all-timed x is d n why pos from to h =
      let there = moved f alone century ps 1000000 (1000000 * begin) d n (risen-first ∙ sym (risen-in d n pos from to)) x is in
      h.none there.0 there.1

  pub all-untimed : (why : Why) → HasNoTime f alone century ps 1000000 (1000000 * begin) why → (d n : ℕ) → 0 < d → d * begin ≤ n
      → n < d * end → HasNoTime f alone century ps d n why
  all-untimed why h d n pos from to =
      let same : risen_by (n / d) ps ≡ risen_by (1000000 * begin / 1000000) ps = risen-in d n pos from to ∙ sym risen-first in record {
        none = λ x is. (let there = moved f alone century ps d n 1000000 (1000000 * begin) same x is in h.none there.0 there.1);
        is = subst (λ (r : ℕ). IsWhy f alone century ps r why) (sym same) h.is;
      }

module _ (most micros : ℕ) (ps : List Pulse) (track : IsTrackUpTo most micros ps) where
  -- the pulses that rise in an order: before the first, after it, and after the last
  pub begin-first : HasBegun ps 0 0
  begin-first = record { after = λ t le. omega arith; before = λ t lt. absurd (omega (arith, lt)) }

  pub begin-next : (place : ℕ) (p : Pulse) → slice_get ps place ≡ Some p → HasBegun ps (place + 1) p.rise
  begin-next place p is = record {
    after = λ t le. risen_above t 0 place p ps track.rises is le;
    before = λ t lt. omega (arith, risen_below t 0 place p ps track.rises is lt);
  }

  pub between-next : (place begin : ℕ) (p : Pulse) → slice_get ps place ≡ Some p → HasBegun ps place begin → IsBetween ps place begin p.rise
  between-next place begin p is h = λ t le lt. omega (arith, h.after t le, risen_below t 0 place p ps track.rises is lt)

  pub order-next : (place begin : ℕ) (p : Pulse) → slice_get ps place ≡ Some p → HasBegun ps place begin → begin ≤ p.rise
  order-next place begin p is h = elim (cases_lt p.rise begin) [
    | inl lt ↦ absurd (omega (arith, h.before p.rise lt, risen_above p.rise 0 place p ps track.rises is (omega arith)))
    | inr le ↦ le
  ]

  pub between-last : (begin : ℕ) → HasBegun ps (length ps) begin → IsBetween ps (length ps) begin micros
  between-last begin h = λ t le lt. omega (arith, h.after t le, risen_by-le t ps)
