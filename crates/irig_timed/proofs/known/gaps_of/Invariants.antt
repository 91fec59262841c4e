use Rattle.std.proofs.Common.{◌≡◌, ◌<◌, ℕ, length, slice_get, Some}
use Rattle.irig_timed.specs.{Reasons.gap_with, Runs.place_at, Runs.place_before}
use Rattle.irig_timed.proofs.known.gaps_of.Given as goal

abbrev pub invariant-loop-place : goal.invariant-loop-place
invariant-loop-place l = record {
  track : l.pulses.track ≡ l.fn.pulses.track;
  same : l.records.records ≡ l.fn.records.records;
  many : length l.list.items ≡ l.place;
  each : (k : ℕ) → k < l.place → slice_get l.list.items k
      ≡ Some (gap_with l.format l.century l.fn.pulses.track.pulses l.believed l.held (place_before l.runs k) (place_at l.runs k));
}
