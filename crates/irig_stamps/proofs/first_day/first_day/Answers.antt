use Rattle.std.proofs.Common.{sym, ◌∙◌, arith}
use Rattle.irig_stamps.proofs.DateSteps.{at-place, first-is, first-later}
use Rattle.irig_stamps.proofs.first_day.first_day.Goals as goal

pub loop-k-preserved : goal.loop-k-preserved
loop-k-preserved c =
    let rs = c.args.records.now.records in
    let k = c.loop-k.k in
    let r = at-place rs _ k c.loop-k.invariant.same (omega (arith, c.loop-k-test.true, c.len-k-end.ensures)) in
    record {
      same = c.in-None.ensures.same ∙ c.loop-k.invariant.same;
      left = c.loop-k.invariant.left ∙ first-later c.args.format c.args.held.now rs k r.0 r.1 (sym (c.in-None.ensures.fields r.0 r.2));
    }

pub returns-in-Some-clause-day : goal.returns-in-Some-clause-day
returns-in-Some-clause-day c =
    let rs = c.args.records.now.records in
    let k = c.loop-k.k in
    let r = at-place rs _ k c.loop-k.invariant.same (omega (arith, c.loop-k-test.true, c.len-k-end.ensures)) in
    sym (c.loop-k.invariant.left
    ∙ first-is c.args.format c.args.held.now rs k r.0 r.1 c.in-Some.fields (sym (c.in-Some.ensures.fields r.0 r.2)))
