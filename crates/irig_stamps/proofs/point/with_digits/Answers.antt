use Rattle.std.proofs.Common.{◌+◌, ◌^◌, ◌∷◌, get_or, drop, drop-cons, min, ap, ◌∙◌, add-one, sym, arith}
use Rattle.irig_stamps.specs.Points.{digits_after}
use Rattle.irig_stamps.proofs.Digits.{next-at-most}
use Rattle.irig_stamps.proofs.point.with_digits.Goals as goal

pub loop-digit-preserved : goal.loop-digit-preserved
loop-digit-preserved c =
    let i = c.loop-digit.digit-index in
    let ds = c.args.digits.now in
    record {
      small = c.with_digit-value.ensures.most;
      value = c.loop-digit.invariant.value
          ∙ (ap (λ xs. min (digits_after c.loop-digit.value xs) (2 ^ 120)) (drop-cons ds i 0 (omega arith)
          ∙ ap (λ n. get_or ds i 0 ∷ drop n ds) (sym (add-one i)))
          ∙ next-at-most (2 ^ 120) c.loop-digit.value c.with_digit-value.result (get_or ds i 0) (drop (i + 1) ds) c.with_digit-value.ensures.value);
    }
