use Rattle.std.proofs.Common.{arith}
use Rattle.irig_track.proofs.Carried.{carried_step}
use Rattle.irig_track.proofs.splice.carry.Goals as goal

pub loop-moved-preserved : goal.loop-moved-preserved
loop-moved-preserved c =
    let s = carried_step c.args.from.now c.args.to.now _ _ c.take_right.new.self c.put.new.self c.loop-moved.moved c.in-Some.item _ (omega arith) (omega arith)
    c.loop-moved.invariant.1 c.loop-moved.invariant.2 c.in-Some.is (λ lt. (c.take_right.ensures.item lt, c.take_right.ensures.rest lt)) c.put.ensures in
    (omega arith, s.0, s.1)
