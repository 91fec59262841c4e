use Rattle.std.proofs.Common.{◌≡◌, ◌+◌, ◌-◌, ◌*◌, ◌≤◌, ◌++◌, length, max}
use Rattle.irig_index.specs.{Frames.records_in, Sides.left_of, Sides.kept_right}
use Rattle.irig_index.proofs.LookBounds.{Spent}
use Rattle.irig_index.proofs.filling.fill.Given as goal

-- the records of the places so far are left of the gap
abbrev pub invariant-loop-before : goal.invariant-loop-before
invariant-loop-before l = record {
  spent : Spent l.format l.fn.lens.track.pulses l.from l.place l.fn.lens l.lens l.fn.looks l.looks;
  within : l.place ≤ l.to;
  left : left_of l.records ≡ left_of l.fn.records ++ records_in l.format l.fn.lens.track.pulses l.from (l.place - l.from);
  right : kept_right l.records ≡ kept_right l.fn.records;
  room : length l.fn.records.items + length (records_in l.format l.fn.lens.track.pulses l.from (l.to - l.from)) ≤ l.fn.records.capacity
      → l.records.capacity ≡ l.fn.records.capacity;
  bounded : 2 * l.records.capacity ≤ max (2 * l.fn.records.capacity) (3 * length l.records.items);
}

abbrev pub decreases-loop-before : goal.decreases-loop-before
decreases-loop-before l = l.to - l.place
