use Rattle.std.proofs.Common.{◌<◌, ◌^◌, arith}
use Rattle.irig_explaining.proofs.Growing.{small_least, small_nodes}
use Rattle.irig_explaining.proofs.ways.cost_of.Goals as goal

pub cheapest-requires-clause-small : goal.cheapest-requires-clause-small
cheapest-requires-clause-small g c =
    let fits : c.args.rises.skip < 2 ^ 32 = omega arith in
    small_nodes (g.C.Costs.price c.args.costs.now) c.args.rises c.args.rises.count c.args.nodes.now c.requires.table (omega (arith, c.requires.few)) fits

pub top_to-top-requires-clause-small : goal.top_to-top-requires-clause-small
top_to-top-requires-clause-small g c =
    let fits : c.args.rises.skip < 2 ^ 32 = omega arith in
    small_nodes (g.C.Costs.price c.args.costs.now) c.args.rises c.args.rises.count c.args.nodes.now c.requires.table (omega (arith, c.requires.few)) fits

pub returns-clause-small : goal.returns-clause-small
returns-clause-small g c =
    let fits : c.args.rises.skip < 2 ^ 32 = omega arith in
    small_least _ c.args.rises _ c.args.to.rise c.args.to.element c.cheapest.result c.cheapest.ensures c.requires.there c.requires.few fits
