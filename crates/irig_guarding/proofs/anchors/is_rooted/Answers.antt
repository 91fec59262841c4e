use Rattle.std.proofs.Common.{◌≡◌, ◌∙◌, ap, arith}
use Rattle.irig_safety.specs.Anchors.{anchors_among}
use Rattle.irig_guarding.proofs.anchors.is_rooted.Goals as goal

pub returns : goal.returns
returns c =
    let last : c.loop-element.element ≡ 100 = omega (arith, c.loop-element.auto.element-end, c.loop-element-test.false) in
    let among = anchors_among c.args.opened.now.pulses c.args.session.now.state.pulses c.args.frame.now.marker in
    let same : c.loop-element.many ≡ among 100 = c.loop-element.invariant.0 ∙ ap among last in (
      λ t. let most = c.is_most.ensures.0 t in omega (arith, most, same),
      λ m. c.is_most.ensures.1 (omega (arith, m, same)),
    )
