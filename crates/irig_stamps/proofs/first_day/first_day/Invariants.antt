use Rattle.std.proofs.Common.{◌≡◌, drop}
use Rattle.irig_stamps.specs.Dates.{first_day}
use Rattle.irig_stamps.proofs.first_day.first_day.Given as goal

abbrev pub invariant-loop-k : goal.invariant-loop-k
invariant-loop-k l = record {
  same : l.records.records ≡ l.fn.records.records;
  left : first_day l.format l.held 0 l.fn.records.records ≡ first_day l.format l.held l.k (drop l.k l.fn.records.records);
}
