use Rattle.std.proofs.Common.{◌≡◌, ◌≤◌, ◌++◌, drop, length}
use Rattle.irig_timed.specs.Held.{held_in}
use Rattle.irig_timed.proofs.held.held_in.Given as goal

abbrev pub invariant-loop-place : goal.invariant-loop-place
invariant-loop-place l = record {
  same : l.records.records ≡ l.fn.records.records;
  few : l.next ≤ l.place;
  many : length l.list.items ≡ l.place;
  left : l.list.items ++ held_in (drop l.next l.frames) (drop l.place l.fn.records.records) ≡ held_in l.frames l.fn.records.records;
}
