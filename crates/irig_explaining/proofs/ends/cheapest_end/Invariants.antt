use Rattle.std.proofs.Common.{◌≡◌, ◌*◌, ◌<◌, ◌≤◌, ℕ, MatchOption, slice_get, Some}
use Rattle.irig_explaining.specs.declared.nodes.Node.{Node}
use Rattle.irig_explaining.specs.Ends.{EndsAt, ending}
use Rattle.irig_explaining.proofs.ends.cheapest_end.Given as goal

-- the least of the ends so far
abbrev pub invariant-loop-number : goal.invariant-loop-number
invariant-loop-number l = record {
  none : l.best.cost ≤ l.fn.rises.skip * l.fn.rises.count;
  least : (v : ℕ) (n : Node) → v < l.number → slice_get l.nodes v ≡ Some n → l.best.cost ≤ ending l.fn.rises n;
  backed : MatchOption l.best.last (l.best.cost ≡ l.fn.rises.skip * l.fn.rises.count) (λ v. EndsAt l.fn.rises l.nodes l.best.cost v);
}
