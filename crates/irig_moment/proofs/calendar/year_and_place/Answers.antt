use Rattle.std.proofs.Common.{◌∙◌, arith, w16, w32, ap, sym, subst, Fits, FitsSigned, rules}
use Rattle.std.specs.Prelude.{ℤ, unsigned_abs}
use Rattle.std.proofs.lemmas.Int.{to_z-of_z}
use lib.Dec.{T}
use lib.Signed.{non_neg}
use Rattle.irig_moment.proofs.Days.{last-day, number-is, year-number, year-told, place-told}
use Rattle.irig_moment.proofs.calendar.year_and_place.Goals as goal

pub from_days_since_min-date-requires : goal.from_days_since_min-date-requires
from_days_since_min-date-requires c = last-day c.args.day c.requires.before

pub overflow_cast-result : goal.overflow_cast-result
overflow_cast-result c =
    let d = c.from_days_since_min-date.result in
    let fits : FitsSigned w16 d.year = search rules in
    let number = year-number d c.args.day (number-is d c.args.day c.from_days_since_min-date.ensures) c.requires.from in
    subst (λ (z : ℤ). T (non_neg z) × Fits w32 (unsigned_abs z)) (sym (to_z-of_z w16 d.year fits ∙ number.0)) (tt, record { fits = omega (arith, number.2) })

pub returns-clause-year : goal.returns-clause-year
returns-clause-year c =
    let d = c.from_days_since_min-date.result in
    let fits : FitsSigned w16 d.year = search rules in
    ap unsigned_abs (to_z-of_z w16 d.year fits) ∙ year-told d c.args.day (number-is d c.args.day c.from_days_since_min-date.ensures) c.requires.from

pub returns-clause-place : goal.returns-clause-place
returns-clause-place c =
    let d = c.from_days_since_min-date.result in
    place-told d c.args.day c.day_of_year.result (number-is d c.args.day c.from_days_since_min-date.ensures) c.requires.from c.day_of_year.ensures.value
