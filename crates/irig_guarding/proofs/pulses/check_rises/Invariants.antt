use Rattle.irig_safety.specs.Original.{with_frames}
use Rattle.irig_guarding.proofs.PulseLemmas.{StandsAll}
use Rattle.irig_guarding.proofs.pulses.check_rises.Given as goal

abbrev pub invariant-loop-frame : goal.invariant-loop-frame
invariant-loop-frame l = StandsAll (with_frames l.former l.opened) l.session.state l.frames l.passed l.frame-index
