use Rattle.std.proofs.Common.{[], refl, arith}
use Rattle.irig_vcd.proofs.Clocks.{no_units, starts}
use Rattle.irig_vcd.proofs.reading.Reading.new.Goals as goal

pub returns-clause-start : goal.returns-clause-start
returns-clause-start c = λ unit. record {
  traced = record { time = starts unit; late = rw c.new.ensures.start (omega arith); last = no_units unit; follows = c.new.ensures.follows };
  keeps = record { holds = c.new-2.ensures; means = refl };
}

pub returns-clause-time : goal.returns-clause-time
returns-clause-time c = λ unit.
    record { time = starts unit; late = rw c.new.ensures.start (omega arith); changes = []; follows = c.new.ensures.follows }
