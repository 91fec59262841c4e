use Rattle.std.proofs.Common.{◌≡◌, ℕ, ◌-◌, ◌<◌, ◌≤◌, length, slice_get, Some}
use Rattle.irig_timed.specs.declared.run.Run.{Run}
use Rattle.irig_timed.proofs.run.runs_before.Given as goal

abbrev pub invariant-loop-low : goal.invariant-loop-low
invariant-loop-low l = record {
  before : (k : ℕ) (r : Run) → slice_get l.fn.runs k ≡ Some r → k < l.low → r.number < l.number;
  after : (k : ℕ) (r : Run) → slice_get l.fn.runs k ≡ Some r → l.high ≤ k → l.number ≤ r.number;
  order : l.low ≤ l.high;
  within : l.high ≤ length l.fn.runs;
}

abbrev pub decreases-loop-low : goal.decreases-loop-low
decreases-loop-low l = l.high - l.low
