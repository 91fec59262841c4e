use Rattle.std.proofs.Common.{◌<◌, ◌≤◌, ℕ}
use Rattle.irig_law.specs.Law.{Denies}
use Rattle.irig_law.proofs.sides.last_before.Given as goal

abbrev pub invariant-loop-place : goal.invariant-loop-place
invariant-loop-place l = record {
  low : l.place ≤ l.to;
  none : (k : ℕ) → l.place ≤ k → k < l.to → Denies l.list k → ⊥;
}

abbrev pub decreases-loop-place : goal.decreases-loop-place
decreases-loop-place l = l.place
