use Rattle.std.proofs.Common.{◌≡◌, ◌*◌, ◌^◌, ◌≤◌, take}
use Rattle.irig_candidates.specs.{Bits.value_cost, Rows.field_of}
use Rattle.irig_candidates.proofs.code.Code.value_cost.Given as goal

abbrev pub invariant-loop-bit : goal.invariant-loop-bit
invariant-loop-bit l = record {
  sum : l.total ≡ value_cost l.self (field_of l.field) l.value (take l.bit-index l.bits);
  small : l.total ≤ 2 ^ 32 * l.bit-index;
}
