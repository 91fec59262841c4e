-- The stretches without a time, with one more.
use Rattle.std.proofs.Common.{◌≡◌, ◌⊎◌, ◌==◌, ◌+◌, ◌-◌, ◌*◌, ◌<◌, ◌≤◌, ℕ, Bool, true, false, List, [], ◌∷◌, inl, inr, refl, sym, ap, ◌∙◌, subst, arith}
use Rattle.std.specs.Prelude.{if◌then◌else◌}
use Rattle.std.proofs.Math.Nat.{mul-le-mul_left}
use Rattle.std.proofs.lemmas.Bool.{and_from, and_parts, cases_lt, eq-eqb, eqb-true, true≢false}
use Rattle.irig_times.specs.declared.why.Why.TheVariants.{After, Before, Hole, Step, Unbelieved}
use Rattle.irig_times.specs.{declared.why.Why.Why}
use Rattle.irig_stamps.specs.declared.stretch.Stretch.{Stretch}
use Rattle.irig_stamps.specs.Holes.{AreHoles, AreInOrder, Covers, IsAfterAll, IsIn}
use Rattle.irig_stamps.specs.Joined.{number_of, stretch, total, touches, with_more}

-- a reason by its number
abbrev why_of : ℕ → Why
why_of n = if n == 0 then Before else (if n == 1 then After else (if n == 2 then Hole else (if n == 3 then Step else Unbelieved)))

why_back : (v : Why) → why_of (number_of v) ≡ v
why_back Before = refl
why_back After = refl
why_back Hole = refl
why_back Step = refl
why_back Unbelieved = refl

same_why : (v w : Why) → number_of v ≡ number_of w → v ≡ w
same_why v w e = sym (why_back v) ∙ (ap why_of e ∙ why_back w)

module _ (s t : Stretch) (before : List Stretch) where
  abbrev joined : Bool → List Stretch
  joined b = if b then stretch s.begin t.end s.why ∷ before else t ∷ s ∷ before

  module _ (some : s.begin < s.end) (more : t.begin < t.end) where
    in-joined : (b : Bool) → touches s t ≡ b → (d n : ℕ) (why : Why) → IsIn (joined b) d n why
        → IsIn (s ∷ before) d n why ⊎ (Covers t d n × (t.why ≡ why))
    in-joined true e d n why (inl (cov, w)) =
        let both = and_parts (s.end == t.begin) (number_of s.why == number_of t.why) e in
        let meet : s.end ≡ t.begin = eqb-true s.end t.begin both.0 in
        let same : s.why ≡ t.why = same_why s.why t.why (eqb-true (number_of s.why) (number_of t.why) both.1) in
        elim (cases_lt n (d * s.end)) [
          | inl near ↦ inl (inl ((cov.0, near), w))
          | inr far ↦ inr ((subst (λ (m : ℕ). d * m ≤ n) meet far, cov.1), sym same ∙ w)
        ]
    in-joined true e d n why (inr is) = inl (inr is)
    in-joined false e d n why (inl is) = inr is
    in-joined false e d n why (inr is) = inl is

    joined-in : (b : Bool) → touches s t ≡ b → (d n : ℕ) (why : Why)
        → IsIn (s ∷ before) d n why ⊎ (Covers t d n × (t.why ≡ why)) → IsIn (joined b) d n why
    joined-in true e d n why (inl (inl (cov, w))) =
        let both = and_parts (s.end == t.begin) (number_of s.why == number_of t.why) e in
        let meet : s.end ≡ t.begin = eqb-true s.end t.begin both.0 in
        let up : s.end ≤ t.end = omega (arith, meet, more) in
        inl ((cov.0, omega (arith, cov.1, mul-le-mul_left d up)), w)
    joined-in true e d n why (inl (inr is)) = inr is
    joined-in true e d n why (inr (cov, w)) =
        let both = and_parts (s.end == t.begin) (number_of s.why == number_of t.why) e in
        let meet : s.end ≡ t.begin = eqb-true s.end t.begin both.0 in
        let same : s.why ≡ t.why = same_why s.why t.why (eqb-true (number_of s.why) (number_of t.why) both.1) in
        let up : s.begin ≤ t.begin = omega (arith, meet, some) in
        inl ((omega (arith, cov.0, mul-le-mul_left d up), cov.1), same ∙ w)
    joined-in false e d n why (inl is) = inr is
    joined-in false e d n why (inr is) = inl is

    joined-total : (b : Bool) → touches s t ≡ b → total (joined b) ≡ total (s ∷ before) + (t.end - t.begin)
    joined-total true e =
        let both = and_parts (s.end == t.begin) (number_of s.why == number_of t.why) e in
        let meet : s.end ≡ t.begin = eqb-true s.end t.begin both.0 in
        omega (arith, meet, some, more)
    joined-total false e = omega arith

  joined-after : (b : Bool) → touches s t ≡ b → AreInOrder (s ∷ before) → t.begin < t.end → s.end ≤ t.begin → AreInOrder (joined b)
  joined-after true e h more le = (one before h, h.1) where
    one : (before : List Stretch) → AreInOrder (s ∷ before) → IsAfterAll before (stretch s.begin t.end s.why)
    one [] h = omega (arith, h.0, more, le)
    one (u ∷ us) h = (omega (arith, h.0.0, more, le), h.0.1, h.0.2)
  joined-after false e h more le = (
    (
      more,
      le,
      λ meet same. true≢false (sym (and_from (s.end == t.begin) (number_of s.why == number_of t.why) (eq-eqb s.end t.begin meet)
          (eq-eqb (number_of s.why) (number_of t.why) (ap number_of same))) ∙ e),
    ),
    h,
  )

-- a stretch is not empty
not-empty : (s : Stretch) (before : List Stretch) → AreInOrder (s ∷ before) → s.begin < s.end
not-empty s [] h = h.0
not-empty s (u ∷ us) h = h.0.0

in-more : (ss : List Stretch) (t : Stretch) → AreInOrder ss → t.begin < t.end → (d n : ℕ) (why : Why) → IsIn (with_more ss t) d n why
    → IsIn ss d n why ⊎ (Covers t d n × (t.why ≡ why))
in-more [] t h more d n why (inl is) = inr is
in-more [] t h more d n why (inr is) = absurd is
in-more (s ∷ before) t h more d n why is = in-joined s t before (not-empty s before h) more (touches s t) refl d n why is

more-in : (ss : List Stretch) (t : Stretch) → AreInOrder ss → t.begin < t.end → (d n : ℕ) (why : Why)
    → IsIn ss d n why ⊎ (Covers t d n × (t.why ≡ why)) → IsIn (with_more ss t) d n why
more-in [] t h more d n why (inl is) = absurd is
more-in [] t h more d n why (inr is) = inl is
more-in (s ∷ before) t h more d n why is = joined-in s t before (not-empty s before h) more (touches s t) refl d n why is

pub total-more : (ss : List Stretch) (t : Stretch) → AreInOrder ss → t.begin < t.end → total (with_more ss t) ≡ total ss + (t.end - t.begin)
total-more [] t h more = omega arith
total-more (s ∷ before) t h more = joined-total s t before (not-empty s before h) more (touches s t) refl

module _ (has_none : ℕ → ℕ → Why → Type 0) (limit end : ℕ) where
  -- a stretch with a time
  pub timed-more : (ss : List Stretch) → limit ≤ end
      → ((d n : ℕ) (why : Why) → 0 < d → d * limit ≤ n → n < d * end → has_none d n why → ⊥)
      → AreHoles has_none limit ss → AreHoles has_none end ss
  timed-more ss le none h = record {
    order = h.order;
    within = λ d n why is. omega (arith, h.within d n why is, mul-le-mul_left d le);
    exact = λ d n why some lt. elim (cases_lt n (d * limit)) [
      | inl near ↦ h.exact d n why some near
      | inr far ↦ (
        (λ has. absurd (none d n why some far lt has)),
        (λ is. absurd (omega (arith, h.within d n why is, far))),
      )
    ];
  }

  -- and one without
  module _ (why : Why) (ss : List Stretch) (lt : limit < end)
      (none : (d n : ℕ) → 0 < d → d * limit ≤ n → n < d * end → has_none d n why)
      (one : (d n : ℕ) (v w : Why) → has_none d n v → has_none d n w → v ≡ w)
      (h : AreHoles has_none limit ss) where
    abbrev next : Stretch
    next = stretch limit end why

    order-more : (all : List Stretch) → AreHoles has_none limit all → AreInOrder (with_more all next)
    order-more [] k = (lt, tt)
    order-more (s ∷ before) k =
        let some = not-empty s before k.order in
        let last : s.end - 1 < 1 * limit = k.within 1 (s.end - 1) s.why (inl ((omega (arith, some), omega (arith, some)), refl)) in
        joined-after s next before (touches s next) refl k.order lt (omega (arith, last, some))

    pub untimed-more : AreHoles has_none end (with_more ss next)
    untimed-more = record {
      order = order-more ss h;
      within = λ d n v is. elim (in-more ss next h.order lt d n v is) [
        | inl old ↦ (let le : limit ≤ end = omega (arith, lt) in omega (arith, h.within d n v old, mul-le-mul_left d le))
        | inr (cov, w) ↦ cov.1
      ];
      exact = λ d n v some under. elim (cases_lt n (d * limit)) [
        | inl near ↦ (
          (λ has. more-in ss next h.order lt d n v (inl ((h.exact d n v some near).0 has))),
          (λ is. elim (in-more ss next h.order lt d n v is) [
            | inl old ↦ (h.exact d n v some near).1 old
            | inr (cov, w) ↦ absurd (omega (arith, cov.0, near))
          ]),
        )
        | inr far ↦ (
          (λ has. more-in ss next h.order lt d n v (inr ((far, under), one d n why v (none d n some far under) has))),
          (λ is. elim (in-more ss next h.order lt d n v is) [
            | inl old ↦ absurd (omega (arith, h.within d n v old, far))
            | inr (cov, w) ↦ subst (λ (x : Why). has_none d n x) w (none d n some far under)
          ]),
        )
      ];
    }
