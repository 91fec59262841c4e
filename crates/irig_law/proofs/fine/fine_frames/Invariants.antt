use Rattle.std.proofs.Common.{◌≡◌, ◌++◌, drop}
use Rattle.irig_law.specs.Chains.{fine_in}
use Rattle.irig_law.proofs.fine.fine_frames.Given as goal

abbrev pub invariant-loop-place : goal.invariant-loop-place
invariant-loop-place l = record {
  track : l.pulses.track ≡ l.fn.pulses.track;
  same : l.records.records ≡ l.fn.records.records;
  left : l.list.items ++ fine_in l.format l.fn.pulses.track.pulses (drop l.place l.fn.records.records)
      ≡ fine_in l.format l.fn.pulses.track.pulses l.fn.records.records;
}
