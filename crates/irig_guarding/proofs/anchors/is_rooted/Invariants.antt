use Rattle.std.proofs.Common.{◌≡◌, ◌≤◌}
use Rattle.irig_safety.specs.Anchors.{anchors_among}
use Rattle.irig_guarding.proofs.anchors.is_rooted.Given as goal

abbrev pub invariant-loop-element : goal.invariant-loop-element
invariant-loop-element l = (l.many ≡ anchors_among l.opened.pulses l.session.state.pulses l.frame.marker l.element)
    × (l.many ≤ l.element)
