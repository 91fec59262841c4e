use Rattle.std.proofs.Common.{◌^◌, ◌≤◌, length}
use Rattle.irig_candidates.proofs.cheapest.tables.put_tables.Given as goal

abbrev pub invariant-loop-rest : goal.invariant-loop-rest
invariant-loop-rest l = length l.rest ≤ 2 ^ 30

abbrev pub decreases-loop-rest : goal.decreases-loop-rest
decreases-loop-rest l = length l.rest
