use Rattle.std.proofs.Common.{◌≤◌, vec_len}
use Rattle.irig_candidates.proofs.cheapest.put_values.Given as goal

abbrev pub invariant-loop-value : goal.invariant-loop-value
invariant-loop-value l = vec_len l.beam ≤ 12
