use Rattle.std.proofs.Common.{arith, sym, refl, ◌∙◌}
use Rattle.irig_guarding.proofs.AnchorLemmas.{at_next, not_at_next, placed_anchor, placed_as, placed_held, placed_none, placed_not}
use Rattle.irig_guarding.proofs.anchors.are_placed.Goals as goal
use Rattle.irig_guarding.proofs.anchors.are_placed.Goals.{then-is_at, else-is_at+else-not-is_held}

pub loop-element-init : goal.loop-element-init
loop-element-init c =
    placed_none c.args.session.now.state.format c.args.opened.now.pulses c.args.session.now.state.pulses c.args.frame.now.marker c.args.near.now
    c.args.frame.now.shown
    _ c.next_anchor-next.ensures.value c.next_anchor-next.ensures.few

pub returns-then-not-is_held : goal.returns-then-not-is_held
returns-then-not-is_held c = (
  λ t. absurd (cc),
  λ each. absurd (placed_not c.args.session.now.state.format c.args.opened.now.pulses c.args.session.now.state.pulses c.args.frame.now.marker c.args.near.now
      c.args.frame.now.shown
      c.loop-element.element _ _ (omega (arith, c.loop-element-test.true))
      (not_at_next c.args.session.now.state.format c.args.opened.now.pulses c.args.session.now.state.pulses c.args.frame.now.marker c.args.near.now
      c.args.frame.now.shown c.loop-element.element _ _ c.is_at.result (omega (arith, c.loop-element-test.true)) c.is_at.ensures.1 c.if-is_at.false
      c.loop-element.invariant)
      (sym c.is_held.ensures ∙ c.if-not-is_held.true) c.loop-element.invariant each),
)

pub loop-element-preserved : goal.loop-element-preserved
loop-element-preserved c = elim c.if-is_at.branch [
  | then-is_at w ↦ placed_as c.args.session.now.state.format c.args.opened.now.pulses c.args.session.now.state.pulses c.args.frame.now.marker c.args.near.now
      c.args.frame.now.shown _ _ _ _ _ w.last-is w.next-is
      (placed_anchor c.args.session.now.state.format c.args.opened.now.pulses c.args.session.now.state.pulses c.args.frame.now.marker c.args.near.now
      c.args.frame.now.shown c.loop-element.element _ _ _
      (at_next c.args.session.now.state.format c.args.opened.now.pulses c.args.session.now.state.pulses c.args.frame.now.marker c.args.near.now
      c.args.frame.now.shown
      c.loop-element.element _ _ c.is_at.result (omega (arith, c.loop-element-test.true)) c.is_at.ensures.0 w.if-is_at.true c.loop-element.invariant)
      w.next_anchor-next-then-is_at.ensures.value w.next_anchor-next-then-is_at.ensures.few c.loop-element.invariant)
  | else-is_at+else-not-is_held w ↦ placed_as c.args.session.now.state.format c.args.opened.now.pulses c.args.session.now.state.pulses c.args.frame.now.marker
      c.args.near.now c.args.frame.now.shown _ _ _ _ _ w.last-is w.next-is
      (placed_held c.args.session.now.state.format c.args.opened.now.pulses c.args.session.now.state.pulses c.args.frame.now.marker c.args.near.now
      c.args.frame.now.shown c.loop-element.element _ _
      (omega (arith, c.loop-element-test.true))
      (not_at_next c.args.session.now.state.format c.args.opened.now.pulses c.args.session.now.state.pulses c.args.frame.now.marker c.args.near.now
      c.args.frame.now.shown
      c.loop-element.element _ _ c.is_at.result (omega (arith, c.loop-element-test.true)) c.is_at.ensures.1 w.if-is_at.false c.loop-element.invariant)
      (sym w.is_held.ensures ∙ w.if-not-is_held.false) c.loop-element.invariant)
]

pub returns : goal.returns
returns c = (λ t j few. c.loop-element.invariant.placed j (omega (arith, few, c.loop-element-test.false)), λ each. refl)
