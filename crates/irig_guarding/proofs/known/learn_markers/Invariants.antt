use Rattle.irig_guarding.specs.Known.{AreKnown}
use Rattle.irig_guarding.proofs.known.learn_markers.Given as goal

abbrev pub invariant-loop-frame : goal.invariant-loop-frame
invariant-loop-frame l = AreKnown l.opened l.session.state.pulses l.known_markers.items
