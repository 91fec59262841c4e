use Rattle.std.proofs.Common.{◌≡◌, ◌*◌, ◌^◌, ◌≤◌, take}
use Rattle.irig_candidates.specs.Bits.{cost_of}
use Rattle.irig_candidates.proofs.code.Code.cost_below.Given as goal

abbrev pub invariant-loop-bit : goal.invariant-loop-bit
invariant-loop-bit l = record {
  sum : l.total ≡ cost_of l.self l.base (take l.bit-index l.bits);
  small : l.total ≤ 2 ^ 32 * l.bit-index;
}
