use Rattle.std.proofs.Common.{rules, ◌≡◌, ◌+◌, ◌<◌, ◌^◌, length, min, arith, ◌∙◌}
use Rattle.irig_stamps.proofs.MovedPoints.{rounded-far}
use Rattle.irig_stamps.proofs.point.times_power.Goals as goal

pub returns : goal.returns
returns c e is =
    let short : length c.args.fraction.now < 2 ^ 64 = search rules in
    let same : c.min.result ≡ min (length c.args.fraction.now + 37) (c.args.places + e) = omega (arith, c.min.ensures, is, short) in
    c.point_right.ensures ∙ rounded-far c.args.up (c.args.places + e) c.min.result c.args.integer.now c.args.fraction.now same
