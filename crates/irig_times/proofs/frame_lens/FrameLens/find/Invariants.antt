use Rattle.std.proofs.Common.{◌≡◌, ℕ, ◌-◌, ◌^◌, ◌<◌, ◌≤◌, length, slice_get, Some}
use Rattle.irig_index.specs.declared.record.Record.{Record}
use Rattle.irig_times.proofs.FrameLookLemmas.{Narrowed}
use Rattle.irig_times.proofs.frame_lens.FrameLens.find.Given as goal

abbrev pub invariant-loop-low : goal.invariant-loop-low
invariant-loop-low l = record {
  before : (k : ℕ) (r : Record) → slice_get l.fn.self.records k ≡ Some r → k < l.low → r.marker ≤ l.number;
  after : (k : ℕ) (r : Record) → slice_get l.fn.self.records k ≡ Some r → l.high ≤ k → l.number < r.marker;
  order : l.low ≤ l.high;
  within : l.high ≤ length l.fn.self.records;
  records : l.self.records ≡ l.fn.self.records;
  looked : (digits : ℕ) → length l.fn.self.records < 2 ^ digits → Narrowed (l.high - l.low) digits l.fn.self l.self;
}

abbrev pub decreases-loop-low : goal.decreases-loop-low
decreases-loop-low l = l.high - l.low
