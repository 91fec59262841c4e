use Rattle.irig_guarding.proofs.PulseLemmas.{RootedAll}
use Rattle.irig_guarding.proofs.pulses.check_rooted.Given as goal

abbrev pub invariant-loop-frame : goal.invariant-loop-frame
invariant-loop-frame l = RootedAll l.opened l.session.state l.frames l.frame-index
