use Rattle.std.proofs.Common.{◌<◌, ◌≤◌, ℕ}
use Rattle.irig_explaining.specs.declared.claim.Kind.TheVariants.{Jump}
use Rattle.irig_explaining.proofs.opening.dearest_jump.Given as goal

-- the most of the classes so far
abbrev pub invariant-loop-class : goal.invariant-loop-class
invariant-loop-class g l = (f : ℕ) → g.C.Costs.to_class l.costs f < l.class
    → g.C.Costs.price l.costs l.fn.node.rise l.fn.node.element l.fn.rise f Jump ≤ l.most
