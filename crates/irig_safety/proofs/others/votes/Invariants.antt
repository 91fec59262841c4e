use Rattle.irig_safety.proofs.OtherLemmas.{Votes}
use Rattle.irig_safety.proofs.others.votes.Given as goal

abbrev pub invariant-loop-other : goal.invariant-loop-other
invariant-loop-other l = Votes l.same_value l.function l.others l.frame l.many l.other-index
