use Rattle.irig_explaining.specs.Nodes.{AreNodes}
use Rattle.irig_explaining.proofs.nodes.nodes.Given as goal

-- all nodes of the rises so far
abbrev pub invariant-loop-rise : goal.invariant-loop-rise
invariant-loop-rise g l = AreNodes (g.C.Costs.price l.costs) l.fn.rises l.rise l.nodes.items
