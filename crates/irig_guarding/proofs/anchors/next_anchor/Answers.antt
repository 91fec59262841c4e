use Rattle.std.proofs.Common.{◌∙◌, arith, sym}
use Rattle.irig_guarding.proofs.AnchorLemmas.{next_over}
use Rattle.irig_guarding.proofs.anchors.next_anchor.Goals as goal

pub loop-element-preserved : goal.loop-element-preserved
loop-element-preserved c =
    c.loop-element.invariant
    ∙ next_over c.args.opened.now.pulses c.args.session.now.state.pulses c.args.marker c.loop-element.element (omega (arith, c.loop-element-test.true))
    (sym c.is_anchored.ensures ∙ c.if-is_anchored.false)
