use Rattle.std.proofs.Common.{◌≡◌, ◌≤◌, inl, inr, arith}
use Rattle.std.proofs.lemmas.Bool.{cases_lt}
use Rattle.irig_explaining.specs.declared.claim.Kind.TheVariants.{Jump}
use Rattle.irig_explaining.proofs.opening.dearest_jump.Goals as goal

pub loop-class-init : goal.loop-class-init
loop-class-init g c = λ f lt. absurd (omega arith)

pub loop-class-preserved : goal.loop-class-preserved
loop-class-preserved g c = λ f lt.
    let class = g.C.Costs.to_class c.args.costs.now f in
    elim (cases_lt class c.loop-class.class) [
      | inl before ↦
          let low : g.C.Costs.price c.args.costs.now c.args.node.rise c.args.node.element c.args.rise f Jump ≤ c.loop-class.most =
          c.loop-class.invariant f before in
          omega (arith, low, c.max-most.ensures)
      | inr le ↦
          let same : class ≡ c.loop-class.class = omega arith in
          let here : g.C.Costs.price c.args.costs.now c.args.node.rise c.args.node.element c.args.rise f Jump ≡ c.jump_to.result =
          rw c.claim.ensures at c.jump_to.ensures f same in
          omega (arith, here, c.max-most.ensures)
    ]

pub returns : goal.returns
returns g c = λ f lt. let end = c.loop-class-test.false in
    c.loop-class.invariant f (omega (arith, c.to_classes-class-end.ensures f lt))
