use Rattle.std.proofs.Common.{◌≡◌, ◌⊎◌, ◌+◌, ◌<◌, ◌≤◌, ℕ, slice_get, Some}
use Rattle.irig_explaining.specs.declared.nodes.Node.{Node}
use Rattle.irig_explaining.specs.{Bounds.EndsBelow, Ends.ending}
use Rattle.irig_explaining.proofs.bounds.ends_below.Given as goal

-- the least of those that end at the nodes so far
abbrev pub invariant-loop-back : goal.invariant-loop-back
invariant-loop-back l = record {
  kept : l.least ≤ l.fn.best;
  least : (v : ℕ) (n : Node) → l.count ≤ v + l.back → v < l.count → slice_get l.nodes v ≡ Some n → l.least ≤ ending l.fn.rises n;
  origin : (l.least ≡ l.fn.best) ⊎ EndsBelow l.fn.rises l.nodes l.below l.least;
}
