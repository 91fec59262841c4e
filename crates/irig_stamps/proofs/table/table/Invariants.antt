use Rattle.std.proofs.Common.{◌≡◌, ◌++◌, ℕ, List, drop}
use Rattle.irig_stamps.specs.Tables.{IsTable}
use Rattle.irig_stamps.proofs.table.table.Given as goal

abbrev pub invariant-loop-place : goal.invariant-loop-place
invariant-loop-place l = record {
  track : l.pulses.track ≡ l.fn.pulses.track;
  same : l.records.records ≡ l.fn.records.records;
  goes : (rest : List ℕ) → IsTable l.format l.fn.pulses.track.pulses l.settings l.place (drop l.place l.fn.records.records) rest
      → IsTable l.format l.fn.pulses.track.pulses l.settings 0 l.fn.records.records (l.text.items ++ rest);
}
