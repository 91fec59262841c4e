use Rattle.std.proofs.Common.{arith}
use Rattle.irig_candidates.proofs.BestLemmas.{least-end, least-more}
use Rattle.irig_candidates.proofs.finding.best.best_base.Goals as goal

pub loop-base-preserved : goal.loop-base-preserved
loop-base-preserved c = record {
  exact = c.better.ensures.exact;
  least = least-more c.args.code.now c.args.bits.now c.loop-base.best c.args.bases.now c.loop-base.base-index c.better.result c.loop-base-test.true
      c.loop-base.invariant.least c.better.ensures.own c.better.ensures.known;
}

pub returns-in-Some : goal.returns-in-Some
returns-in-Some c =
    least-end c.args.code.now c.args.bits.now c.loop-base.best c.in-Some.found c.args.bases.now c.loop-base.base-index c.in-Some.is c.loop-base.invariant.exact
    c.loop-base.invariant.least (omega (arith, c.loop-base-test.false))
