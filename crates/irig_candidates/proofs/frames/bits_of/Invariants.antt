use Rattle.std.proofs.Common.{◌≤◌}
use Rattle.irig_candidates.proofs.frames.bits_of.Given as goal

abbrev pub invariant-loop-place : goal.invariant-loop-place
invariant-loop-place l = l.begun ≤ l.place
