use Rattle.std.proofs.Common.{◌≡◌, ◌<◌, ℕ, length, slice_index_or}
use Rattle.irig_explaining.specs.Middles.{IsMiddle, around}
use Rattle.irig_explaining.proofs.median.middles.Given as goal

-- those of the places so far
abbrev pub invariant-loop-place : goal.invariant-loop-place
invariant-loop-place l = record {
  all : length l.middles.items ≡ l.place;
  each : (i : ℕ) → i < l.place → IsMiddle (around l.fn.reach l.distances i) (slice_index_or l.middles.items i 0);
}
