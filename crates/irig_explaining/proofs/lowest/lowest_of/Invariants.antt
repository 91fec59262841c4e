use Rattle.std.proofs.Common.{◌≡◌, ◌+◌, ◌<◌, ◌≤◌, ℕ, Some, slice_get}
use Rattle.irig_explaining.specs.declared.nodes.Node.{Node}
use Rattle.irig_explaining.proofs.lowest.lowest_of.Given as goal

-- the least of the nodes so far
abbrev pub invariant-loop-back : goal.invariant-loop-back
invariant-loop-back l = record {
  low : (u : ℕ) (n : Node) → l.end ≤ u + l.back → u < l.end → slice_get l.nodes u ≡ Some n → l.low ≤ n.cost;
  kept : l.low ≤ l.fn.most;
}
