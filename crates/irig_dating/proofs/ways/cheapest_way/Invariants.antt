use Rattle.std.proofs.Common.{◌≡◌, ◌+◌, ◌^◌, ◌<◌, ◌≤◌, ℕ, get_or}
use Rattle.irig_dating.specs.Choices.{step}
use Rattle.irig_dating.proofs.ways.cheapest_way.Given as goal

-- the cheapest one so far
abbrev pub invariant-loop-to : goal.invariant-loop-to
invariant-loop-to g l = record {
  there : l.best.to < l.to;
  exact : l.best.cost ≡ step (g.C.Costs.prices l.costs) l.fn.bit l.fn.before l.best.to + get_or l.row l.best.to 0;
  small : l.best.cost ≤ get_or l.row l.best.to 0 + 2 ^ 33;
  ways : (d : ℕ) → d < l.to → l.best.cost ≤ step (g.C.Costs.prices l.costs) l.fn.bit l.fn.before d + get_or l.row d 0;
}
