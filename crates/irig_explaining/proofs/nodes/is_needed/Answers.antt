use Rattle.std.proofs.Common.{inr, arith}
use Rattle.irig_explaining.proofs.nodes.is_needed.Goals as goal

pub returns-then-most-more-clause-beaten : goal.returns-then-most-more-clause-beaten
returns-then-most-more-clause-beaten g c =
    let le = c.requires.most (g.C.Costs.from_class c.args.costs.now c.args.element) 0 c.requires.there in
    inr (omega (arith, le, c.if-most-more.true))
