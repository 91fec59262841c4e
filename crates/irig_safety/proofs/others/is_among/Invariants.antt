use Rattle.irig_safety.proofs.OtherLemmas.{Among}
use Rattle.irig_safety.proofs.others.is_among.Given as goal

abbrev pub invariant-loop-other : goal.invariant-loop-other
invariant-loop-other l = Among l.others l.frame l.other-index
