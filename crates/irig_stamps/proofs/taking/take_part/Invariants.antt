use Rattle.std.proofs.Common.{◌≡◌, take}
use Rattle.irig_stamps.specs.Steps.{Takes}
use Rattle.irig_stamps.proofs.taking.take_part.Given as goal

abbrev pub invariant-loop-byte : goal.invariant-loop-byte
invariant-loop-byte l = record {
  track : l.pulses.track ≡ l.fn.pulses.track;
  taken : Takes l.format l.fn.pulses.track.pulses l.settings (take l.byte-index l.part) l.fn.text.items l.text.items l.fn.state l.state;
}
