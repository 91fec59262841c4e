use Rattle.std.proofs.Common.{◌≡◌, ◌-◌}
use Rattle.irig_safety.specs.Anchors.{next_anchor}
use Rattle.irig_guarding.proofs.anchors.next_anchor.Given as goal

abbrev pub invariant-loop-element : goal.invariant-loop-element
invariant-loop-element l = next_anchor l.opened.pulses l.session.state.pulses l.marker (100 - l.from) l.from
    ≡ next_anchor l.opened.pulses l.session.state.pulses l.marker (100 - l.element) l.element
