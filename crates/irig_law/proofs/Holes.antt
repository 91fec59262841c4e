-- In a hole the code that passed is within its bounds.
use Rattle.std.proofs.Common.{◌≡◌, inl, inr, ◌≤◌, ◌-◌, ◌+◌, ◌*◌, ℕ, arith, subst}
use Rattle.std.specs.Prelude.{min, max}
use Rattle.std.proofs.lemmas.Bool.{cases_lt}
use Rattle.irig_law.specs.Holes.{HolesAreBounded, IsBounded, earliest, latest}

-- what the two ends of a hole say
by-one : (low high other more p : ℕ) → low ≤ p → p ≤ high → (min low other ≤ p) × (p ≤ max high more)
by-one low high other more p l h = (omega (arith, l), omega (arith, h))

by-other : (low high other more p : ℕ) → other ≤ p → p ≤ more → (min low other ≤ p) × (p ≤ max high more)
by-other low high other more p l h = (omega (arith, l), omega (arith, h))

pub holes_are_bounded : HolesAreBounded
holes_are_bounded r long units passed hole x le = bounded (elim (cases_lt x hole.event) [
  | inl early ↦
      let w = hole.before x early 0 x (omega arith) (omega arith) (omega arith) in
      let zero_less : x - 0 ≡ x = omega arith in
      let low : r.least * x ≤ passed x = omega (arith, subst (λ y. passed 0 + r.least * y ≤ passed x) zero_less w.0) in
      let high : passed x ≤ r.most * x = omega (arith, subst (λ y. passed x ≤ passed 0 + r.most * y) zero_less w.1, hole.begins) in
      by-one (r.least * x) (r.most * x) (units - r.most * (long - x)) (units - r.least * (long - x)) (passed x) low high
  | inr late ↦
      let w = hole.after x long late le (omega arith) in
      let low : units - r.most * (long - x) ≤ passed x = omega (arith, w.1, hole.ends) in
      let high : passed x ≤ units - r.least * (long - x) = omega (arith, w.0, hole.ends) in
      by-other (r.least * x) (r.most * x) (units - r.most * (long - x)) (units - r.least * (long - x)) (passed x) low high
])
  where
    bounded : (earliest r long units x ≤ passed x) × (passed x ≤ latest r long units x) → IsBounded r long units passed x
    bounded both = record { earliest = both.0; latest = both.1 }
