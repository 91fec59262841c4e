use Rattle.std.proofs.Common.{◌&&◌, ◌||◌, ◌^◌, false, min, ap, ◌∙◌}
use Rattle.irig_stamps.specs.Points.{digits_after, has_weight, padded}
use Rattle.irig_stamps.proofs.MovedPoints.{point-right}
use Rattle.irig_stamps.proofs.point.point_right.Goals as goal

pub returns : goal.returns
returns c =
    point-right c.args.up c.rounds_up-one_more.result c.args.right c.padded-value.result c.with_one.result c.args.integer.now c.args.fraction.now
    (c.padded-value.ensures
    ∙ ap (λ v. min (digits_after v (padded c.args.right c.args.fraction.now)) (2 ^ 120)) c.with_digits.ensures)
    (c.rounds_up-one_more.ensures ∙ ap (λ ds. c.args.up && (has_weight ds || false)) c.digits_after_first.ensures) c.with_one.ensures
