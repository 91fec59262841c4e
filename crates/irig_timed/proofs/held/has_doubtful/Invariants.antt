use Rattle.std.proofs.Common.{◌≡◌, drop}
use Rattle.irig_timed.specs.Reasons.{has_doubtful}
use Rattle.irig_timed.proofs.held.has_doubtful.Given as goal

abbrev pub invariant-loop-place : goal.invariant-loop-place
invariant-loop-place l = record {
  same : l.records.records ≡ l.fn.records.records;
  rest : has_doubtful l.format l.from l.to l.fn.records.records l.held
      ≡ has_doubtful l.format l.from l.to (drop l.place l.fn.records.records) (drop l.place l.held);
}
