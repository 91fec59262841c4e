use Rattle.std.proofs.Common.{◌≡◌, ◌∙◌, arith, pos, w16, ap}
use Rattle.std.proofs.lemmas.Int.{to_z_pos}
use Rattle.jiff_core.specs.Calendar.{days_in_year}
use Rattle.jiff_core.proofs.CalendarLemmas.{days_in_year_bounds}
use Rattle.irig_moment.proofs.Days.{january, day-in-years}
use Rattle.irig_moment.proofs.calendar.ordinal_day.Goals as goal

pub overflow_add-result : goal.overflow_add-result
overflow_add-result c = record {
  fits = omega (
    arith,
    c.new_year.ensures,
    january c.args.year (omega arith),
    c.if-day-days_in_year.false,
    c.days_in_year.ensures,
    days_in_year_bounds (pos c.args.year),
    ap days_in_year (to_z_pos w16 c.args.year (omega arith)),
  );
}

pub returns-clause-range : goal.returns-clause-range
returns-clause-range c =
    let long : c.days_in_year.result ≡ days_in_year (pos c.args.year) = c.days_in_year.ensures ∙ ap days_in_year (to_z_pos w16 c.args.year (omega arith)) in
    day-in-years c.args.year _ c.if-year-lt1.false c.if-year-gt-LAST_YEAR.false (omega (arith, c.new_year.ensures))
    (omega (arith, c.new_year.ensures, long, c.if-day-lt1.false, c.if-day-days_in_year.false))
