use Rattle.std.proofs.Common.{◌≡◌, ◌⊎◌, ◌+◌, ◌<◌, ◌≤◌, ℕ, Some, slice_get}
use Rattle.std.specs.List.{Contains}
use Rattle.irig_explaining.specs.declared.nodes.Node.{Node}
use Rattle.irig_explaining.specs.{Bounds.ElsewhereBetween, Ways.OtherWay}
use Rattle.irig_explaining.proofs.node_steps.with_steps_of_nodes.Given as goal

-- the least of those to the nodes so far
abbrev pub invariant-loop-number : goal.invariant-loop-number
invariant-loop-number g l = record {
  kept : l.least ≤ l.fn.best;
  least : (v : ℕ) (m : Node) → l.initial.number ≤ v → v < l.number → slice_get l.after v ≡ Some m
      → (n : Node) → Contains l.before n → n.rise ≡ l.fn.rise
      → ElsewhereBetween (g.C.Costs.price l.costs) (g.C.Places.place l.costs) l.fn.asked (n.cost + m.cost) l.fn.rise n.element
      l.fn.later m.element l.least;
  origin : (l.least ≡ l.fn.best) ⊎ OtherWay (g.C.Costs.price l.costs) (g.C.Places.place l.costs) l.fn.rises l.before l.after l.fn.asked l.least;
}
