use Rattle.std.proofs.Common.{◌<◌, ◌^◌, arith}
use Rattle.std.proofs.Math.Nat.{mul-le-mul_left}
use Rattle.irig_explaining.proofs.lowest.lowest_node.Goals as goal

pub returns-clause-small : goal.returns-clause-small
returns-clause-small c =
    let skip : c.args.rises.skip < 2 ^ 32 = omega arith in
    omega (arith, c.lowest_of.ensures.kept, c.skipped.ensures.exact, mul-le-mul_left c.args.rises.skip c.requires.rise)
