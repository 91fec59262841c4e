use Rattle.irig_safety.proofs.MovedLemmas.{Moves}
use Rattle.irig_safety.proofs.moved.moved_in.Given as goal

abbrev pub invariant-loop-frame : goal.invariant-loop-frame
invariant-loop-frame l = Moves l.old l.new l.moved.items l.from l.frame-index
