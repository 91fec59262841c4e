use Rattle.std.proofs.Common.{IfSome}
use Rattle.irig_candidates.specs.Found.{IsPair}
use Rattle.irig_candidates.proofs.finding.best_two.Given as goal

abbrev pub invariant-loop-base : goal.invariant-loop-base
invariant-loop-base l = IfSome l.pair IsPair
