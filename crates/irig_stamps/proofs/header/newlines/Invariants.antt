use Rattle.std.proofs.Common.{◌≡◌, ◌≤◌, take}
use Rattle.irig_stamps.specs.Named.{newlines}
use Rattle.irig_stamps.proofs.header.newlines.Given as goal

abbrev pub invariant-loop-byte : goal.invariant-loop-byte
invariant-loop-byte l = record {
  count : l.count ≡ newlines (take l.byte-index l.bytes);
  bound : l.count ≤ l.byte-index;
}
