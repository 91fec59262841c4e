use Rattle.std.proofs.Common.{arith}
use Rattle.irig_law.proofs.Lists.{two-after}
use Rattle.irig_law.proofs.sides.second_last.Goals as goal

pub returns-else-before-eq0 : goal.returns-else-before-eq0
returns-else-before-eq0 c =
    let b = c.last_before-before in
    two-after c.args.list.now c.args.last b.result c.requires.none c.requires.denies (omega (arith, c.if-last-eq0.false))
    b.ensures.inside b.ensures.none b.ensures.denies
