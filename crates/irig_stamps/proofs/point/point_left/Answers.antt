use Rattle.std.proofs.Common.{rules, ◌≡◌, ◌-◌, ◌&&◌, ◌||◌, ap, ◌∙◌, length}
use Rattle.irig_stamps.specs.Points.{has_weight}
use Rattle.irig_stamps.proofs.MovedPoints.{point-left}
use Rattle.irig_stamps.proofs.point.point_left.Goals as goal

pub returns : goal.returns
returns c =
    let kept : c.saturating_sub-kept.result ≡ length c.args.integer.now - c.args.left = search rules in
    point-left c.args.up c.rounds_up-one_more.result c.args.left c.saturating_sub-kept.result c.with_digits-value.result c.with_one.result c.args.integer.now
    c.args.fraction.now kept c.with_digits-value.ensures
    (c.rounds_up-one_more.ensures ∙ ap (λ ds. c.args.up && (has_weight ds || has_weight c.args.fraction.now)) c.digits_after_first.ensures) c.with_one.ensures
