use Rattle.irig_explaining.specs.Opened.{AreOpen}
use Rattle.irig_explaining.proofs.opening.open_nodes.Given as goal

-- the nodes so far
abbrev pub invariant-loop-from : goal.invariant-loop-from
invariant-loop-from g l = AreOpen (g.C.Costs.price l.costs) l.fn.rises l.nodes l.fn.rise l.fn.near.start l.from l.fn.top l.opens.items
