use Rattle.std.proofs.Common.{rules, ◌≡◌, ◌-◌, ◌<◌, ◌^◌, length, min, ap, arith, ◌∙◌}
use Rattle.irig_stamps.specs.Points.{kept}
use Rattle.irig_stamps.proofs.MovedPoints.{rounded-kept}
use Rattle.irig_stamps.proofs.point.divided_by_power.Goals as goal

pub returns-then-power-places : goal.returns-then-power-places
returns-then-power-places c e is =
    let short : c.args.places < 2 ^ 64 = search rules in
    let same : kept (c.args.places - c.args.power) 0 c.args.integer.now ≡ kept c.args.places e c.args.integer.now =
    omega (arith, is, short, c.if-power-places.true) in
    c.point_right.ensures
    ∙ ap (λ v. min v (2 ^ 120)) (rounded-kept c.args.up (c.args.places - c.args.power) 0 c.args.places e c.args.integer.now c.args.fraction.now same)

pub returns-else-power-places : goal.returns-else-power-places
returns-else-power-places c e is =
    let short : c.args.places < 2 ^ 64 = search rules in
    let few : length c.args.integer.now < 2 ^ 64 = search rules in
    let same : kept 0 (c.args.power - c.args.places) c.args.integer.now ≡ kept c.args.places e c.args.integer.now =
    omega (arith, is, short, few, c.if-power-places.false) in
    c.point_left.ensures
    ∙ ap (λ v. min v (2 ^ 120)) (rounded-kept c.args.up 0 (c.args.power - c.args.places) c.args.places e c.args.integer.now c.args.fraction.now same)
