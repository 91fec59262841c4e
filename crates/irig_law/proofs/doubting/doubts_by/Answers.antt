use Rattle.std.proofs.Common.{◌≡◌, ◌+◌, ℕ, Bool, true, arith, sym, subst}
use Rattle.std.specs.Prelude.{◌↔◌}
use Rattle.irig_law.specs.Doubting.{IsDoubted}
use Rattle.irig_law.proofs.Each.{at-more, one-longer}
use Rattle.irig_law.proofs.doubting.doubts_by.Goals as goal

pub loop-place-preserved : goal.loop-place-preserved
loop-place-preserved c =
    let f = c.args.format in
    let a = c.args.from.now in
    let b = c.args.to.now in
    let xs = c.loop-place.list.items in
    let ys = c.push.new.self.items in
    let x = c.is_doubted.result in
    let before = c.loop-place.invariant in
    let pushed = c.in_ok-push.ensures.items in
    let longer = one-longer Bool xs ys x pushed in
    record {
      many = omega (arith, longer, before.many);
      each = λ century ps told. at-more Bool xs ys x (λ (i : ℕ) (y : Bool). (y ≡ true) ↔ IsDoubted f century ps a b (a.marker + i)) pushed
          (before.each century ps told)
          (subst (λ (m : ℕ). (x ≡ true) ↔ IsDoubted f century ps a b (a.marker + m)) (sym before.many) (c.is_doubted.ensures century ps told));
    }
