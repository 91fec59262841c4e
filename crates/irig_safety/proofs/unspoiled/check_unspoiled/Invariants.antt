use Rattle.irig_safety.proofs.SafetyLemmas.{FindsAll}
use Rattle.irig_safety.proofs.unspoiled.check_unspoiled.Given as goal

abbrev pub invariant-loop-frame : goal.invariant-loop-frame
invariant-loop-frame l = FindsAll l.last l.new l.found l.frame-index
