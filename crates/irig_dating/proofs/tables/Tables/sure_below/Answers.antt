use Rattle.std.proofs.Common.{arith}
use Rattle.irig_dating.proofs.Others.{others_other, others_sure}
use Rattle.irig_dating.proofs.tables.Tables.sure_below.Goals as goal

pub returns-clause-sure : goal.returns-clause-sure
returns-clause-sure g c =
    let self = c.args.self.now in
    others_sure (g.C.Costs.prices self.costs.now) self.bits c.args.bit c.args.candidate c.loop-other.other c.loop-other.least
    c.loop-other.invariant (omega arith) c.requires.there

pub returns-clause-exact : goal.returns-clause-exact
returns-clause-exact g c =
    let self = c.args.self.now in
    others_other (g.C.Costs.prices self.costs.now) self.bits c.args.bit c.args.candidate c.loop-other.other c.loop-other.least
    c.loop-other.invariant
