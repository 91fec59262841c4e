use Rattle.std.proofs.Common.{◌<◌, ◌^◌, arith}
use Rattle.irig_explaining.proofs.Growing.{small_nodes}
use Rattle.irig_explaining.proofs.nodes.row.Goals as goal

pub lows-requires-clause-small : goal.lows-requires-clause-small
lows-requires-clause-small g c =
    let fits : c.args.rises.skip < 2 ^ 32 = omega arith in
    small_nodes (g.C.Costs.price c.args.costs.now) c.args.rises c.args.rise c.args.nodes.now c.requires.nodes (omega (arith, c.requires.few)) fits
