use Rattle.std.proofs.Common.{◌≡◌, ◌*◌, ◌-◌, ◌≤◌, length}
use Rattle.irig_index.specs.{Frames.records_in, Looked.Looked}
use Rattle.irig_index.proofs.filling.count_markers.Given as goal

-- as many as there are records of the places so far
abbrev pub invariant-loop-before : goal.invariant-loop-before
invariant-loop-before l = record {
  looked : Looked l.fn.lens l.lens l.fn.looks l.looks (2 * l.place);
  within : l.place ≤ l.to;
  few : l.count ≤ l.place;
  count : l.count ≡ length (records_in l.format l.fn.lens.track.pulses 0 (l.place - 0));
}

abbrev pub decreases-loop-before : goal.decreases-loop-before
decreases-loop-before l = l.to - l.place
