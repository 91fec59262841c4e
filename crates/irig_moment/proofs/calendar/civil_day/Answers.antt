use Rattle.std.proofs.Common.{◌≡◌, ◌≤◌, ℤ, ◌∙◌, arith, pos, w8, w16, ap}
use Rattle.std.proofs.lemmas.Int.{to_z_pos}
use Rattle.jiff_core.specs.Calendar.{days_in_month}
use Rattle.irig_moment.specs.Calendar.{day_number}
use Rattle.irig_moment.proofs.Days.{made-day, civil-in-years, civil-there}
use Rattle.irig_moment.proofs.calendar.civil_day.Goals as goal

number : (c : goal.After-days_since_min) → c.days_since_min.result ≡ day_number c.args.year c.args.month c.args.day
number c =
    made-day c.to_plain.result c.date-date.result c.days_since_min.result c.args.year c.args.month c.args.day c.to_plain.ensures
    (c.date-date.ensures.0 ∙ to_z_pos w16 c.args.year (omega arith)) (c.date-date.ensures.1 ∙ to_z_pos w8 c.args.month (omega arith))
    (c.date-date.ensures.2 ∙ to_z_pos w8 c.args.day (omega (arith, c.days_in_month.ensures.high, c.if-day-days_in_month.false)))
    c.days_since_min.ensures.value

within : (c : goal.After-days_since_min) → c.args.day ≤ days_in_month (pos c.args.year) c.args.month
within c =
    let long : c.days_in_month.result ≡ days_in_month (pos c.args.year) c.args.month = c.days_in_month.ensures.value
    ∙ ap (λ (z : ℤ). days_in_month z c.args.month) (to_z_pos w16 c.args.year (omega arith)) in
    omega (arith, long, c.if-day-days_in_month.false)

pub returns-clause-value : goal.returns-clause-value
returns-clause-value c =
    civil-there c.args.year c.args.month c.args.day c.days_since_min.result c.if-year-lt1.false c.if-year-gt-LAST_YEAR.false c.if-month-lt1.false
    c.if-month-gt12.false c.if-day-lt1.false (within c) (number c)

pub returns-clause-range : goal.returns-clause-range
returns-clause-range c =
    civil-in-years c.args.year c.args.month c.args.day c.days_since_min.result c.if-year-lt1.false c.if-year-gt-LAST_YEAR.false c.if-month-lt1.false
    c.if-month-gt12.false c.if-day-lt1.false (within c) (number c)
