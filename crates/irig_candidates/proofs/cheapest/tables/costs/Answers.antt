use Rattle.std.proofs.Common.{◌+◌, arith}
use Rattle.irig_candidates.specs.{Bits.value_cost, Rows.field_of}
use Rattle.irig_candidates.proofs.BaseLemmas.{table-more}
use Rattle.irig_candidates.proofs.cheapest.tables.costs.Goals as goal

pub loop-value-preserved : goal.loop-value-preserved
loop-value-preserved c = record {
  done = table-more (λ v. value_cost c.args.code.now (field_of c.args.values.now.field) (c.args.values.now.first + v) c.args.bits.now) _ _ c.loop-value.value _
      c.in_ok-push.ensures.items c.loop-value.invariant.done c.value_cost.ensures.value;
  count = omega (arith, c.in_ok-push.ensures.len, c.loop-value.invariant.count);
}
