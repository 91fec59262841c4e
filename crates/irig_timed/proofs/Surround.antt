-- The pulses with a time around a moment are known by any words for which pulse has one, and are the only ones.
use Rattle.std.proofs.Common.{◌≡◌, inl, inr, ℕ, Option, Some, None, refl, ap, subst}
use Rattle.std.specs.Prelude.{◌↔◌}
use Rattle.std.proofs.lemmas.Bool.{cases_order}
use Rattle.irig_law.specs.declared.point.Point.{Point}
use Rattle.irig_timed.specs.Around.{AreAround, IsFirst, IsLast}
use Rattle.irig_timed.specs.declared.run.Place.{Place}

module _ (P Q : ℕ → Point → Type 0) (same : (k : ℕ) (x : Point) → P k x ↔ Q k x) (risen : ℕ) where
  last-by : (o : Option Place) → IsLast P risen o → IsLast Q risen o
  last-by None h = λ k x low q. h k x low ((same k x).1 q)
  last-by (Some p) h = (h.0, (same p.number p.point).0 h.1, λ k x low high q. h.2 k x low high ((same k x).1 q))

  first-by : (o : Option Place) → IsFirst P risen o → IsFirst Q risen o
  first-by None h = λ k x low q. h k x low ((same k x).1 q)
  first-by (Some p) h = (h.0, (same p.number p.point).0 h.1, λ k x low high q. h.2 k x low high ((same k x).1 q))

  pub around-by : (from to : Option Place) → AreAround P risen from to → AreAround Q risen from to
  around-by from to h = record { last = last-by from h.last; next = first-by to h.next }

module _ (P : ℕ → Point → Type 0) (once : (k : ℕ) (x y : Point) → P k x → P k y → x ≡ y) (risen : ℕ) where
  same-place : (p q : Place) → p.number ≡ q.number → P p.number p.point → P q.number q.point → p ≡ q
  same-place p q at here there =
      let point = once q.number p.point q.point (subst (λ k. P k p.point) at here) there in
      λ i. record { number = at i; point = point i }

  pub last-once : (a b : Option Place) → IsLast P risen a → IsLast P risen b → a ≡ b
  last-once None None h g = refl
  last-once None (Some q) h g = absurd (h q.number q.point g.0 g.1)
  last-once (Some p) None h g = absurd (g p.number p.point h.0 h.1)
  last-once (Some p) (Some q) h g = elim (cases_order p.number q.number) [
    | inl at ↦ ap Some (same-place p q at h.1 g.1)
    | inr other ↦ elim other [
      | inl less ↦ absurd (h.2 q.number q.point less g.0 g.1)
      | inr more ↦ absurd (g.2 p.number p.point more h.0 h.1)
    ]
  ]

  pub first-once : (a b : Option Place) → IsFirst P risen a → IsFirst P risen b → a ≡ b
  first-once None None h g = refl
  first-once None (Some q) h g = absurd (h q.number q.point g.0 g.1)
  first-once (Some p) None h g = absurd (g p.number p.point h.0 h.1)
  first-once (Some p) (Some q) h g = elim (cases_order p.number q.number) [
    | inl at ↦ ap Some (same-place p q at h.1 g.1)
    | inr other ↦ elim other [
      | inl less ↦ absurd (g.2 p.number p.point h.0 less h.1)
      | inr more ↦ absurd (h.2 q.number q.point g.0 more g.1)
    ]
  ]
