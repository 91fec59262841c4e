use Rattle.std.proofs.Common.{arith}
use Rattle.std.proofs.lemmas.Option.{slice_get-get_or}
use Rattle.irig_safety.proofs.OddLemmas.{odd_found, odd_none, odd_on}
use Rattle.irig_safety.proofs.odd.has_odd.Goals as goal

pub loop-one-preserved : goal.loop-one-preserved
loop-one-preserved c = odd_on c.args.odd.now _ c.args.frame.now c.args.function c.loop-one.one-index _
    (slice_get-get_or c.args.odd.now c.loop-one.one-index _ c.loop-one-test.true) c.is_odd_of.ensures c.if-is_odd_of.false c.loop-one.invariant

pub returns-then-is_odd_of : goal.returns-then-is_odd_of
returns-then-is_odd_of c = odd_found c.args.odd.now _ c.args.frame.now c.args.function c.loop-one.one-index _
    (slice_get-get_or c.args.odd.now c.loop-one.one-index _ c.loop-one-test.true) c.is_odd_of.ensures c.if-is_odd_of.true c.loop-one.invariant

pub returns : goal.returns
returns c = odd_none c.args.odd.now c.args.frame.now c.args.function c.loop-one.one-index (omega (arith, c.loop-one-test.false)) c.loop-one.invariant
