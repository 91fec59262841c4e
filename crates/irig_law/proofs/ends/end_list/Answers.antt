use Rattle.std.proofs.Common.{◌≡◌, ◌+◌, ℕ, Option, arith, sym, subst}
use Rattle.irig_law.specs.Seens.{end_of}
use Rattle.irig_law.specs.declared.point.Point.{Point}
use Rattle.irig_law.proofs.Each.{at-more, one-longer}
use Rattle.irig_law.proofs.ends.end_list.Goals as goal

pub loop-place-preserved : goal.loop-place-preserved
loop-place-preserved c =
    let f = c.args.format in
    let a = c.args.frame.now in
    let x = c.end_point.result in
    let xs = c.loop-place.list.items in
    let before = c.loop-place.invariant in
    let pushed = c.in_ok-push.ensures.items in
    let longer = one-longer (Option Point) xs c.push.new.self.items x pushed in
    record {
      many = omega (arith, longer, before.many);
      each = at-more (Option Point) xs c.push.new.self.items x
          (λ (i : ℕ) (y : Option Point). y ≡ end_of f a c.args.none c.args.steps (a.marker + i)) pushed before.each
          (subst (λ (i : ℕ). x ≡ end_of f a c.args.none c.args.steps (a.marker + i)) (sym before.many) c.end_point.ensures);
    }
