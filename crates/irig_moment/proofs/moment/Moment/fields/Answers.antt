use Rattle.std.proofs.Common.{arith}
use Rattle.irig_moment.proofs.{Days.last-day, FieldRanges.elapsed-small}
use Rattle.irig_moment.proofs.moment.Moment.fields.Goals as goal

pub overflow_add-day : goal.overflow_add-day
overflow_add-day c = record {
  fits = omega (
    arith,
    last-day c.self.inside.day (omega (arith, c.self.invariant.in_years.before)),
    elapsed-small c.self.inside.hundredths c.args.k c.period.result c.self.invariant.in_day c.requires.frames c.period.ensures.most,
  );
}
