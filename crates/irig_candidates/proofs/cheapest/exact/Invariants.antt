use Rattle.std.proofs.Common.{IfSome}
use Rattle.irig_candidates.specs.Found.{AreFound}
use Rattle.irig_candidates.proofs.cheapest.exact.Given as goal

abbrev pub invariant-loop-each : goal.invariant-loop-each
invariant-loop-each l = IfSome l.pair (AreFound l.code l.bits)
