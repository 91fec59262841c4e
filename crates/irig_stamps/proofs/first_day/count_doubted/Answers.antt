use Rattle.std.proofs.Common.{◌≤◌, length, ap, ◌∙◌, arith}
use Rattle.irig_stamps.proofs.DateSteps.{at-place, doubt-end, doubt-step}
use Rattle.irig_stamps.proofs.first_day.count_doubted.Goals as goal

pub doubt_of-count-requires : goal.doubt_of-count-requires
doubt_of-count-requires c = omega (arith, c.loop-k-test.true, c.len-k-end.ensures, ap length c.loop-k.invariant.same)

pub loop-k-preserved : goal.loop-k-preserved
loop-k-preserved c =
    let rs = c.args.records.now.records in
    let k = c.loop-k.k in
    let r = at-place rs _ k c.loop-k.invariant.same (omega (arith, c.loop-k-test.true, c.len-k-end.ensures)) in
    record {
      same = c.doubt_of-count.ensures.same ∙ c.loop-k.invariant.same;
      few = omega (arith, c.loop-k.invariant.few, c.doubt_of-count.ensures.few);
      left = omega (arith, c.loop-k.invariant.left, doubt-step c.args.format c.args.held.now rs k r.0 r.1, c.doubt_of-count.ensures.doubt r.0 r.2);
    }

pub returns-clause-count : goal.returns-clause-count
returns-clause-count c =
    let rs = c.args.records.now.records in
    let past : length rs ≤ c.loop-k.k = omega (arith, c.loop-k-test.false, c.len-k-end.ensures) in
    omega (arith, c.loop-k.invariant.left, doubt-end c.args.format c.args.held.now rs c.loop-k.k past)
