use Rattle.std.proofs.Common.{IfSome}
use Rattle.irig_candidates.specs.Found.{IsPair}
use Rattle.irig_candidates.proofs.finding.near.near_pair.Given as goal

abbrev pub invariant-loop-by : goal.invariant-loop-by
invariant-loop-by g l = IfSome l.pair IsPair
