use Rattle.std.proofs.Common.{◌≡◌, ◌<◌, ◌≤◌, ℕ, Some, slice_get}
use Rattle.irig_explaining.specs.declared.{claim.Kind.Kind, nodes.Node.Node}
use Rattle.irig_explaining.specs.Nodes.{going}
use Rattle.irig_explaining.proofs.opening.first_open.Given as goal

-- a step from those so far costs more than the top
abbrev pub invariant-loop-from : goal.invariant-loop-from
invariant-loop-from g l = (u f : ℕ) (m : Node) (k : Kind) → slice_get l.nodes u ≡ Some m → l.fn.near.start ≤ u → u < l.from
    → l.fn.top < going (g.C.Costs.price l.costs) m l.fn.rise f k
