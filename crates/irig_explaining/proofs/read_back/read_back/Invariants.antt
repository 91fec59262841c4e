use Rattle.std.proofs.Common.{reverse}
use Rattle.irig_explaining.specs.Ends.{IsEnding, rises_left}
use Rattle.irig_explaining.proofs.read_back.read_back.Given as goal

-- the claims so far, last one first, can follow the node
abbrev pub invariant-back : goal.invariant-back
invariant-back g l = IsEnding (g.C.Costs.price l.costs) l.fn.rises l.nodes (reverse l.claims.items) l.fn.end.cost l.at

abbrev pub decreases-back : goal.decreases-back
decreases-back g l = rises_left l.nodes l.at
