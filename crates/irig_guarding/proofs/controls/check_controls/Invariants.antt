use Rattle.irig_safety.specs.Original.{with_frames}
use Rattle.irig_guarding.proofs.ControlLemmas.{JudgesAll}
use Rattle.irig_guarding.proofs.controls.check_controls.Given as goal

abbrev pub invariant-loop-frame : goal.invariant-loop-frame
invariant-loop-frame l = JudgesAll (with_frames l.former l.opened) l.session.state l.frames l.passed l.frame-index
