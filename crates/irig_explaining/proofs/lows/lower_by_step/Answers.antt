use Rattle.std.proofs.Common.{inl, inr, arith}
use Rattle.std.proofs.lemmas.Bool.{cases_lt}
use Rattle.irig_explaining.proofs.lows.lower_by_step.Goals as goal

pub returns-then-low-node-clause-least : goal.returns-then-low-node-clause-least
returns-then-low-node-clause-least g c = omega (arith, c.if-low-node.true, c.least_by-least.ensures c.args.node.element c.args.to.element)

pub returns-clause-least : goal.returns-clause-least
returns-clause-least g c = omega (arith, c.come.ensures.cost, c.min.ensures)

pub returns-clause-origin : goal.returns-clause-origin
returns-clause-origin g c = elim (cases_lt c.args.low c.come.result.cost) [
  | inl low ↦ inl (omega (arith, low, c.min.ensures))
  | inr le ↦ inr (omega (arith, le, c.come.ensures.cost, c.min.ensures))
]
