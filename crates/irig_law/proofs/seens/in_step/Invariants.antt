use Rattle.std.proofs.Common.{◌≡◌, ◌-◌, ◌<◌, ◌≤◌, ℕ, length, slice_get, Some}
use Rattle.irig_law.specs.declared.names.Seen.TheVariants.{Named}
use Rattle.irig_law.proofs.seens.in_step.Given as goal

abbrev pub invariant-loop-place : goal.invariant-loop-place
invariant-loop-place l = record {
  high : l.place ≤ length l.list;
  each : (k : ℕ) → k < l.place → slice_get l.list k ≡ Some (Named k);
}

abbrev pub decreases-loop-place : goal.decreases-loop-place
decreases-loop-place l = length l.list - l.place
