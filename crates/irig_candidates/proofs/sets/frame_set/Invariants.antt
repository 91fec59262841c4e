use Rattle.irig_candidates.specs.Bases.{IsSet}
use Rattle.irig_candidates.proofs.sets.frame_set.Given as goal

abbrev pub invariant-loop-base : goal.invariant-loop-base
invariant-loop-base l = IsSet l.set.items
