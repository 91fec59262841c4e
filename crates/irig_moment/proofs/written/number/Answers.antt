use Rattle.std.proofs.Common.{◌+◌, ◌-◌, ◌*◌, ap, take, drop, ◌∙◌, sym, arith}
use Rattle.irig_moment.specs.Written.{digits_after}
use Rattle.irig_moment.proofs.Forms.{digit-step, next-power}
use Rattle.irig_moment.proofs.written.number.Goals as goal

pub loop-digit-preserved : goal.loop-digit-preserved
loop-digit-preserved c =
    let i = c.loop-digit.digit in
    let left = c.args.place + c.args.count in
    record {
      so_far = c.loop-digit.invariant.so_far ∙ digit-step c.loop-digit.value i (left - i) (left - (i + 1)) c.args.text.now
          (omega (arith, c.loop-digit-test.true, c.requires.there)) (omega (arith, c.loop-digit-test.true))
          ∙ ap (λ d. digits_after (10 * c.loop-digit.value + d) (take (left - (i + 1)) (drop (i + 1) c.args.text.now))) (sym c.saturating_sub.ensures);
      small = omega (arith, c.loop-digit.invariant.small, next-power i c.args.place c.loop-digit.auto.digit, c.saturating_sub.type_inv);
    }
