use Rattle.std.proofs.Common.{◌<◌, ℕ, length, get_or, subst, arith, below_more}
use Rattle.irig_explaining.specs.{Lows.IsUnder, Reached.reached}
use Rattle.irig_explaining.proofs.{Covered.numbered, Lowering.lower_more, Lowering.lower_none, Lowering.under_less}
use Rattle.irig_explaining.proofs.lows.step_from.Goals as goal

pub loop-number-init : goal.loop-number-init
loop-number-init g c = record {
  lower = lower_none (g.C.Costs.price c.args.costs.now) c.args.node c.args.rise c.args.lows.now.items;
  under = λ i lt. absurd (omega arith);
}

pub loop-number-preserved : goal.loop-number-preserved
loop-number-preserved g c =
    let price = g.C.Costs.price c.args.costs.now in let m = c.args.node in let q = c.args.rise in let old = c.args.lows.now.items in
    let now = c.loop-number.lows.items in let new = c.step_to.new.lows.items in let reach = c.args.one.reach in let i = c.loop-number.number in
    let so_far = c.loop-number.invariant in let at = c.element-element.ensures in
    record {
      lower = lower_more price m q old now new so_far.lower c.step_to.ensures.lower;
      under = λ j lt there.
          let P : ℕ → Type 0 = λ j. reached reach j < length old → IsUnder price m q (reached reach j) (get_or new (reached reach j) 0) in
          below_more P i
          (λ j lt there. under_less price m q (reached reach j) (get_or now (reached reach j) 0) (get_or new (reached reach j) 0)
          (c.step_to.ensures.lower.kept (reached reach j)) (so_far.under j lt there))
          (λ there. subst (λ e. IsUnder price m q e (get_or new e 0)) at
          (c.step_to.ensures.under (omega (arith, there, at, so_far.lower.all))))
          j lt there;
    }

pub returns-clause-under : goal.returns-clause-under
returns-clause-under g c = λ e lt on.
    let price = g.C.Costs.price c.args.costs.now in let new = c.loop-number.lows.items in
    let n = numbered c.args.one.reach (length c.args.lows.now.items) e c.requires.fits lt on in
    let end = c.loop-number-test.false in
    subst (λ x. IsUnder price c.args.node c.args.rise x (get_or new x 0)) n.is
    (c.loop-number.invariant.under n.number (omega (arith, n.low, c.count-number-end.ensures)) (omega (arith, n.is, lt)))
