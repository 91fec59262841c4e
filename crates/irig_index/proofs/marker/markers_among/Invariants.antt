use Rattle.std.proofs.Common.{◌≡◌, ◌-◌, ◌≤◌, length}
use Rattle.irig_index.specs.Frames.{records_in}
use Rattle.irig_index.proofs.marker.markers_among.Given as goal

-- as many as there are records of the places so far
abbrev pub invariant-loop-place : goal.invariant-loop-place
invariant-loop-place l = record {
  within : l.place ≤ l.last;
  few : l.count ≤ l.place;
  count : l.count ≡ length (records_in l.fn.format l.pulses.items 0 l.place);
}

abbrev pub decreases-loop-place : goal.decreases-loop-place
decreases-loop-place l = l.last - l.place
