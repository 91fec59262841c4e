use Rattle.std.proofs.Common.{◌∙◌, arith, w16}
use Rattle.std.proofs.lemmas.Int.{to_z_pos}
use Rattle.irig_moment.proofs.Days.{made-day}
use Rattle.irig_moment.proofs.calendar.new_year.Goals as goal

pub returns : goal.returns
returns c =
    made-day c.to_plain.result c.date.result c.days_since_min.result c.args.year 1 1 c.to_plain.ensures
    (c.date.ensures.0 ∙ to_z_pos w16 c.args.year (omega arith)) c.date.ensures.1 c.date.ensures.2 c.days_since_min.ensures.value
