use Rattle.irig_guarding.proofs.FillingLemmas.{CountsAll}
use Rattle.irig_guarding.proofs.fillings.count_filled_among.Given as goal

abbrev pub invariant-loop-frame : goal.invariant-loop-frame
invariant-loop-frame l = CountsAll l.opened l.session.state l.frames l.many l.frame-index
