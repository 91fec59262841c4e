use Rattle.std.proofs.Common.{◌≡◌, suc, ◌+◌, ◌-◌, ◌^◌, min, ap, ◌∙◌, arith}
use Rattle.irig_stamps.specs.Points.{digits_after, padded}
use Rattle.irig_stamps.proofs.Digits.{next-at-most}
use Rattle.irig_stamps.proofs.point.padded.Goals as goal

pub loop-place-preserved : goal.loop-place-preserved
loop-place-preserved c =
    let n = c.args.places - (c.loop-place.place + 1) in
    let one : c.args.places - c.loop-place.place ≡ suc n = omega (arith, c.loop-place-test.true) in
    record {
      small = c.with_digit-value.ensures.most;
      value = c.loop-place.invariant.value
          ∙ (ap (λ k. min (digits_after c.loop-place.value (padded k c.loop-place.left.now)) (2 ^ 120)) one
          ∙ (ap (λ xs. min (digits_after c.loop-place.value xs) (2 ^ 120)) (c.first_digit-digit.ensures n)
          ∙ next-at-most (2 ^ 120) c.loop-place.value c.with_digit-value.result c.first_digit-digit.result.0 (padded n c.first_digit-digit.result.1.now)
          c.with_digit-value.ensures.value));
    }
