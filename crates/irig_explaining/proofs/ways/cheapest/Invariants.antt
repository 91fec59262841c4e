use Rattle.std.proofs.Common.{◌≡◌, ◌*◌, ◌<◌, ◌≤◌, ℕ, MatchOption, slice_get, Some}
use Rattle.irig_explaining.specs.declared.{claim.Kind.Kind, nodes.Node.Node}
use Rattle.irig_explaining.specs.Nodes.{ComesFrom, Within, going}
use Rattle.irig_explaining.proofs.ways.cheapest.Given as goal

-- the least of the ways from the nodes so far
abbrev pub invariant-loop-from : goal.invariant-loop-from
invariant-loop-from g l = record {
  first : l.best.cost ≤ l.fn.rises.skip * l.to.rise;
  steps : (u : ℕ) (m : Node) (k : Kind) → u < l.from → slice_get l.nodes u ≡ Some m → Within l.fn.rises m l.to.rise
      → going (g.C.Costs.price l.costs) m l.to.rise l.to.element k ≤ l.fn.top
      → l.best.cost ≤ going (g.C.Costs.price l.costs) m l.to.rise l.to.element k;
  backed : MatchOption l.best.from (l.best.cost ≡ l.fn.rises.skip * l.to.rise)
      (λ u. ComesFrom (g.C.Costs.price l.costs) l.fn.rises l.nodes l.to.rise l.to.element l.best u);
}
