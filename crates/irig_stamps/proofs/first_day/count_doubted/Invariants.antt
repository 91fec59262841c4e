use Rattle.std.proofs.Common.{◌≡◌, ◌≤◌, ◌+◌, drop}
use Rattle.irig_stamps.specs.Dates.{doubted}
use Rattle.irig_stamps.proofs.first_day.count_doubted.Given as goal

abbrev pub invariant-loop-k : goal.invariant-loop-k
invariant-loop-k l = record {
  same : l.records.records ≡ l.fn.records.records;
  few : l.count ≤ l.k;
  left : doubted l.format l.held 0 l.fn.records.records ≡ l.count + doubted l.format l.held l.k (drop l.k l.fn.records.records);
}
