use Rattle.std.proofs.Common.{◌+◌, sym, ap, arith, lit<}
use Rattle.std.proofs.Math.Nat.{pow-le-pow_right}
use Rattle.std.proofs.lemmas.List.{drop_all}
use Rattle.irig_codes.specs.Ones.{ones_of}
use Rattle.irig_codes.proofs.OnesSteps.{of-more, of-below}
use Rattle.irig_codes.proofs.ones.Ones.of.Goals as goal

pub loop-place-init : goal.loop-place-init
loop-place-init c = record {
  bits = sym (ap ones_of (drop_all 100 c.args.frame.now (omega (arith, c.told-frame))));
  bound = lit< tt;
}

pub overflow_mul-bits : goal.overflow_mul-bits
overflow_mul-bits c = omega (arith, c.loop-place.invariant.bound, pow-le-pow_right {n = 2} (lit< tt) {i = c.loop-place.place} {j = 99} (omega arith))

pub overflow_add-bits : goal.overflow_add-bits
overflow_add-bits c =
    let below = of-below c.loop-place.place c.loop-place.bits c.is_one.result c.loop-place.invariant.bound in
    omega (arith, below, pow-le-pow_right {n = 2} (lit< tt) {i = c.loop-place.place + 1} {j = 100} (omega arith))

pub loop-place-preserved : goal.loop-place-preserved
loop-place-preserved c = record {
  bits = of-more c.args.frame.now c.loop-place.place c.loop-place.bits c.is_one.result c.told-frame c.loop-place-test.true c.is_one.ensures
      c.loop-place.invariant.bits;
  bound = of-below c.loop-place.place c.loop-place.bits c.is_one.result c.loop-place.invariant.bound;
}
