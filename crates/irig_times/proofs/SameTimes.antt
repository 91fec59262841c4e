-- A time is the same as itself.
use Rattle.std.proofs.Common.{◌≡◌, ℕ, ◌&&◌, Bool, true, Option, Some, None, refl, sym, ap, ◌∙◌}
use Rattle.std.proofs.lemmas.Bool.{eq-eqb}
use Rattle.irig_times.specs.{declared.time.Time.Time, Follows.same_time, Follows.same_year}

pub same-year : (y : Option ℕ) → same_year y y ≡ true
same-year None = refl
same-year (Some y) = eq-eqb y y refl

pub both : (a b : Bool) → a ≡ true → b ≡ true → (a && b) ≡ true
both a b p q = (λ i. p i && q i)

same-self : (a : Time) → same_time a a ≡ true
same-self a =
    let days = both _ _ (same-year a.year) (eq-eqb a.days a.days refl) in
    let hours = both _ _ days (eq-eqb a.hours a.hours refl) in
    let minutes = both _ _ hours (eq-eqb a.minutes a.minutes refl) in
    both _ _ minutes (eq-eqb a.micros a.micros refl)

pub same-time : (a b : Time) → a ≡ b → same_time a b ≡ true
same-time a b e = ap (same_time a) (sym e) ∙ same-self a
