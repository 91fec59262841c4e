use Rattle.std.proofs.Common.{inl, inr, arith}
use Rattle.std.proofs.lemmas.Bool.{cases_lt}
use Rattle.irig_explaining.specs.declared.claim.Kind.TheVariants.{Next, Step}
use Rattle.irig_explaining.proofs.lows.lower.Goals as goal

pub returns-then-low-least-clause-under : goal.returns-then-low-least-clause-under
returns-then-low-least-clause-under g c = record {
  next = omega (arith, c.if-low-least.true, c.requires.least c.args.element Next);
  step = omega (arith, c.if-low-least.true, c.requires.least c.args.element Step);
}

pub returns-clause-under : goal.returns-clause-under
returns-clause-under g c = record {
  next = omega (arith, c.come.ensures.cost, c.min-next.ensures, c.lower_by_step.ensures.kept);
  step = c.lower_by_step.ensures.least;
}

pub returns-clause-origin : goal.returns-clause-origin
returns-clause-origin g c = elim c.lower_by_step.ensures.origin [
  | inl e ↦ elim (cases_lt c.args.low c.come.result.cost) [
    | inl low ↦ inl (omega (arith, e, low, c.min-next.ensures))
    | inr le ↦ inr (Next, omega (arith, e, le, c.come.ensures.cost, c.min-next.ensures))
  ]
  | inr by ↦ inr (Step, by)
]
