use Rattle.std.proofs.Common.{◌≡◌, ◌+◌, ◌*◌, ◌≤◌, ℕ, MatchOption, length, slice_get, Some}
use Rattle.irig_explaining.specs.declared.{nodes.Node.Node, opened.Open.Open}
use Rattle.irig_explaining.specs.declared.claim.Kind.TheVariants.{Jump}
use Rattle.irig_explaining.specs.Nodes.{ComesFrom, going}
use Rattle.irig_explaining.proofs.steps.cheapest_jump.Given as goal

-- the least of the jumps so far
abbrev pub invariant-loop-done : goal.invariant-loop-done
invariant-loop-done g l = record {
  first : l.best.cost ≤ l.fn.rises.skip * l.fn.rise;
  jumps : (f j : ℕ) (o : Open) (m : Node) → g.C.Costs.to_class l.costs f ≡ l.fn.class → length l.opens ≤ j + l.done → slice_get l.opens j ≡ Some o
      → slice_get l.nodes o.from ≡ Some m → l.best.cost ≤ going (g.C.Costs.price l.costs) m l.fn.rise f Jump;
  backed : (f : ℕ) → g.C.Costs.to_class l.costs f ≡ l.fn.class → MatchOption l.best.from (l.best.cost ≡ l.fn.rises.skip * l.fn.rise)
      (λ u. ComesFrom (g.C.Costs.price l.costs) l.fn.rises l.nodes l.fn.rise f l.best u);
}
