use Rattle.irig_dating.proofs.Others.{others_more, others_same}
use Rattle.irig_dating.proofs.tables.Tables.with_other.Goals as goal

pub returns-then-other-candidate : goal.returns-then-other-candidate
returns-then-other-candidate g c =
    let self = c.args.self.now in
    others_same (g.C.Costs.prices self.costs.now) self.bits c.args.bit c.args.candidate c.args.other c.args.least c.requires.so_far
    c.if-other-candidate.true

pub returns : goal.returns
returns g c =
    let self = c.args.self.now in
    rw c.lesser.ensures
    (others_more (g.C.Costs.prices self.costs.now) self.bits c.args.bit c.args.candidate c.args.other c.args.least c.cheapest_with.result
    c.requires.so_far c.if-other-candidate.false c.cheapest_with.ensures.least c.cheapest_with.ensures.exact)
