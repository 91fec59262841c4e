use Rattle.std.proofs.Common.{◌+◌, ◌^◌, arith}
use Rattle.std.proofs.lemmas.Nat.{mul-le}
use Rattle.irig_law.proofs.fits.is_long.Goals as goal

pub overflow_mul-many : goal.overflow_mul-many
overflow_mul-many c =
    let both = c.span_of-one.result + c.span_of-other.result in
    let most = mul-le c.args.many both (2 ^ 71) (2 ^ 41) (omega (arith, c.requires.small.1))
    (omega (arith, c.span_of-one.ensures.low, c.span_of-other.ensures.low)) in
    omega (arith, most)

pub overflow_mul-result : goal.overflow_mul-result
overflow_mul-result c =
    let both = c.span_of-one.result + c.span_of-other.result in
    let most = mul-le c.args.many both (2 ^ 71) (2 ^ 41) (omega (arith, c.requires.small.1))
    (omega (arith, c.span_of-one.ensures.low, c.span_of-other.ensures.low)) in
    omega (arith, most, c.abs_diff.ensures, c.requires.small.0)

pub overflow_add-result : goal.overflow_add-result
overflow_add-result c =
    let most = mul-le c.args.many c.slack_of-slack.result (2 ^ 71) (2 ^ 48) (omega (arith, c.requires.small.1))
    (omega (arith, c.slack_of-slack.ensures.low)) in
    omega (arith, most, c.span_of-one.ensures.low, c.span_of-other.ensures.low)
