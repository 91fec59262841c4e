use Rattle.std.proofs.Common.{◌≤◌, vec_len}
use Rattle.irig_candidates.proofs.cheapest.wider.Given as goal

abbrev pub invariant-loop-found : goal.invariant-loop-found
invariant-loop-found l = vec_len l.wider ≤ 12
