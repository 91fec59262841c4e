use Rattle.std.proofs.Common.{arith}
use Rattle.std.proofs.lemmas.Option.{slice_get-get_or}
use Rattle.irig_safety.proofs.OtherLemmas.{among_found, among_none, among_on}
use Rattle.irig_safety.proofs.others.is_among.Goals as goal

pub loop-other-preserved : goal.loop-other-preserved
loop-other-preserved c = among_on c.args.others.now _ c.args.frame.now c.loop-other.other-index _
    (slice_get-get_or c.args.others.now c.loop-other.other-index _ c.loop-other-test.true) c.is_of_time.ensures c.if-is_of_time.false c.loop-other.invariant

pub returns-then-is_of_time : goal.returns-then-is_of_time
returns-then-is_of_time c = among_found c.args.others.now _ c.args.frame.now c.loop-other.other-index _
    (slice_get-get_or c.args.others.now c.loop-other.other-index _ c.loop-other-test.true) c.is_of_time.ensures c.if-is_of_time.true c.loop-other.invariant

pub returns : goal.returns
returns c = among_none c.args.others.now c.args.frame.now c.loop-other.other-index (omega (arith, c.loop-other-test.false)) c.loop-other.invariant
