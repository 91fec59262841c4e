use Rattle.std.proofs.Common.{◌≡◌, ◌+◌, map, vec_len}
use Rattle.std.specs.List.{range_with_len}
use Rattle.irig_candidates.specs.{Bits.value_cost, Rows.field_of}
use Rattle.irig_candidates.proofs.cheapest.tables.costs.Given as goal

abbrev pub invariant-loop-value : goal.invariant-loop-value
invariant-loop-value l = record {
  done : l.costs.items ≡ map (λ v. value_cost l.code (field_of l.values.field) (l.values.first + v) l.bits) (range_with_len 0 l.value);
  count : vec_len l.costs ≡ l.value;
}
