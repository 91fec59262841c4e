use Rattle.irig_safety.proofs.SafetyLemmas.{Judges}
use Rattle.irig_safety.proofs.safety.check_from.Given as goal

abbrev pub invariant-loop-frame : goal.invariant-loop-frame
invariant-loop-frame l = Judges l.format l.others l.old l.new l.kept l.frame-index
