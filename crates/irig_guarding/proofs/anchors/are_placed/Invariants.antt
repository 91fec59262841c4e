use Rattle.irig_guarding.proofs.AnchorLemmas.{IsPlacedUpTo}
use Rattle.irig_guarding.proofs.anchors.are_placed.Given as goal

abbrev pub invariant-loop-element : goal.invariant-loop-element
invariant-loop-element l =
    IsPlacedUpTo l.session.state.format l.opened.pulses l.session.state.pulses l.frame.marker l.near l.frame.shown l.element l.last l.next
