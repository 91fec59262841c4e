use Rattle.std.proofs.Common.{◌+◌, sym, subst, inl, inr, arith}
use Rattle.irig_explaining.specs.{Bounds.EndsBelow}
use Rattle.irig_explaining.proofs.bounds.without_step.Goals as goal

pub returns-clause-least : goal.returns-clause-least
returns-clause-least c =
    let first = c.ends_below-ended.ensures in let last = c.ends_below.ensures in
    record {
      none = omega (arith, first.kept, last.kept, c.requires.most);
      ends = λ n there low. omega (arith, first.least n there low, last.kept);
      begins = λ n there low. last.least n there low;
    }

pub returns-clause-origin : goal.returns-clause-origin
returns-clause-origin c = elim c.ends_below.ensures.origin [
  | inl same ↦ elim c.ends_below-ended.ensures.origin [
    | inl e ↦ inl (omega (arith, same, e))
    | inr h ↦ inr (inr (inl (subst (EndsBelow c.args.rises c.args.before.now (c.args.asked.interval + 1)) (sym same) h)))
  ]
  | inr h ↦ inr (inr (inr h))
]
