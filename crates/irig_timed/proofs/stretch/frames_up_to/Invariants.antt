use Rattle.std.proofs.Common.{◌≡◌, ℕ, ◌-◌, ◌<◌, ◌≤◌, length, slice_get, Some}
use Rattle.irig_law.specs.declared.frame.Frame.{Frame}
use Rattle.irig_timed.proofs.stretch.frames_up_to.Given as goal

abbrev pub invariant-loop-low : goal.invariant-loop-low
invariant-loop-low l = record {
  before : (k : ℕ) (r : Frame) → slice_get l.fn.frames k ≡ Some r → k < l.low → r.marker ≤ l.number;
  after : (k : ℕ) (r : Frame) → slice_get l.fn.frames k ≡ Some r → l.high ≤ k → l.number < r.marker;
  order : l.low ≤ l.high;
  within : l.high ≤ length l.fn.frames;
}

abbrev pub decreases-loop-low : goal.decreases-loop-low
decreases-loop-low l = l.high - l.low
