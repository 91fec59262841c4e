use Rattle.std.proofs.Common.{arith, length-set}
use Rattle.irig_candidates.proofs.RowLemmas.{rows-end, rows-more}
use Rattle.irig_candidates.proofs.code.Code.new.Goals as goal

pub loop-element-preserved : goal.loop-element-preserved
loop-element-preserved c = record {
  done = rows-more c.args.format c.loop-element.rows c.loop-element.element c.carried.result
      (omega (arith, c.loop-element.invariant.long, c.loop-element-test.true))
      c.loop-element.invariant.done c.carried.ensures;
  long = simp length-set c.loop-element.invariant.long;
}

pub invariant_of-result : goal.invariant_of-result
invariant_of-result c =
    rows-end c.args.format c.loop-element.rows c.loop-element.element (omega (arith, c.loop-element-test.false)) c.loop-element.invariant.long
    c.loop-element.invariant.done
