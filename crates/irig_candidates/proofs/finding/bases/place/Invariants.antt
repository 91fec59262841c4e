use Rattle.std.proofs.Common.{ℕ, ◌<◌, get_or}
use Rattle.irig_candidates.proofs.finding.bases.place.Given as goal

abbrev pub invariant-loop-place : goal.invariant-loop-place
invariant-loop-place l = (i : ℕ) → i < l.place → get_or l.bases i 0 < l.base
