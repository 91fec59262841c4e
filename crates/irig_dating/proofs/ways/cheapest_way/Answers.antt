use Rattle.std.proofs.Common.{arith}
use Rattle.irig_dating.proofs.LeastWays.{way_is}
use Rattle.irig_dating.proofs.ways.cheapest_way.Goals as goal

pub returns : goal.returns
returns g c =
    let p = g.C.Costs.prices c.args.costs.now in let so_far = c.loop-to.invariant in let full = c.requires.row.full in
    way_is p c.args.bits c.args.bit c.args.before c.args.row.now c.loop-to.best c.requires.row c.requires.there
    (let there = so_far.there in omega arith) so_far.exact so_far.small (λ d le. so_far.ways d (omega arith))
