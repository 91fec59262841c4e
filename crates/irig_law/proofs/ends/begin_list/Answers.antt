use Rattle.std.proofs.Common.{◌≡◌, ◌+◌, ℕ, Option, arith, sym, subst}
use Rattle.irig_law.specs.Seens.{begin_of}
use Rattle.irig_law.specs.declared.point.Point.{Point}
use Rattle.irig_law.proofs.Each.{at-more, one-longer}
use Rattle.irig_law.proofs.ends.begin_list.Goals as goal

pub loop-number-preserved : goal.loop-number-preserved
loop-number-preserved c =
    let f = c.args.format in
    let a = c.args.frame.now in
    let x = c.begin_point.result in
    let xs = c.loop-number.list.items in
    let before = c.loop-number.invariant in
    let pushed = c.in_ok-push.ensures.items in
    let longer = one-longer (Option Point) xs c.push.new.self.items x pushed in
    record {
      many = omega (arith, longer, before.many);
      each = at-more (Option Point) xs c.push.new.self.items x
          (λ (i : ℕ) (y : Option Point). y ≡ begin_of f a c.args.none c.args.steps (c.args.from + i)) pushed before.each
          (subst (λ (i : ℕ). x ≡ begin_of f a c.args.none c.args.steps i) (sym before.many) c.begin_point.ensures);
    }
