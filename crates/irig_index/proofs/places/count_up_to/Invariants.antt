use Rattle.std.proofs.Common.{◌-◌, ◌≤◌, length, take, drop}
use Rattle.irig_index.specs.Sides.{shown, EndsUpTo, BeginsAfter}
use Rattle.irig_index.proofs.places.count_up_to.Given as goal

abbrev pub invariant-loop-low : goal.invariant-loop-low
invariant-loop-low l = record {
  order : l.low ≤ l.high;
  within : l.high ≤ length l.fn.records.items;
  before : EndsUpTo l.last (take l.low (shown l.pulses l.fn.records));
  after : BeginsAfter l.last (drop l.high (shown l.pulses l.fn.records));
}

abbrev pub decreases-loop-low : goal.decreases-loop-low
decreases-loop-low l = l.high - l.low
