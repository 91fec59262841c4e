use Rattle.std.proofs.Common.{◌≡◌, ◌⊎◌, ◌+◌, ◌<◌, ◌≤◌, ℕ, Some, slice_get}
use Rattle.irig_explaining.specs.declared.nodes.Node.{Node}
use Rattle.irig_explaining.specs.{Bounds.ElsewhereBetween, Ways.OtherFrom}
use Rattle.irig_explaining.proofs.node_steps.with_steps_to.Given as goal

-- the least of those from the nodes so far
abbrev pub invariant-loop-number : goal.invariant-loop-number
invariant-loop-number g l = record {
  kept : l.least ≤ l.fn.best;
  least : (u : ℕ) (n : Node) → l.initial.number ≤ u → u < l.number → slice_get l.nodes u ≡ Some n
      → ElsewhereBetween (g.C.Costs.price l.costs) (g.C.Places.place l.costs) l.fn.asked (n.cost + l.fn.rest) l.fn.rise n.element
      l.fn.to.rise l.fn.to.element l.least;
  origin : (l.least ≡ l.fn.best) ⊎ OtherFrom (g.C.Costs.price l.costs) (g.C.Places.place l.costs) l.nodes l.fn.asked l.fn.rise l.fn.rest
      l.fn.to.rise l.fn.to.element l.least;
}
