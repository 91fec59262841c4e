use Rattle.std.proofs.Common.{◌≡◌, ◌≤◌, ◌++◌, List, length}
use Rattle.irig_index.specs.{declared.record.Record.Record, Sides.left_of, Sides.right_of, Sides.shown, Sides.AllAfter, Sides.AllUpTo}
use Rattle.irig_index.proofs.sides.drop_back_to.Given as goal

abbrev pub invariant-loop-records : goal.invariant-loop-records
invariant-loop-records l = record {
  shown : shown l.pulses l.records ≡ shown l.pulses l.fn.records;
  long : length l.records.items ≡ length l.fn.records.items;
  capacity : l.records.capacity ≡ l.fn.records.capacity;
}

abbrev pub decreases-loop-records : goal.decreases-loop-records
decreases-loop-records l = l.records.place

abbrev pub invariant-loop-records-2 : goal.invariant-loop-records-2
invariant-loop-records-2 l = record {
  gone : List Record;
  whole : shown l.pulses l.fn.records ≡ left_of l.records ++ (gone ++ right_of l.pulses l.records);
  after : AllAfter l.first gone;
  up_to : AllUpTo l.last gone;
  long : length l.records.items ≤ length l.fn.records.items;
  capacity : l.records.capacity ≡ l.fn.records.capacity;
}

abbrev pub decreases-loop-records-2 : goal.decreases-loop-records-2
decreases-loop-records-2 l = l.records.place
