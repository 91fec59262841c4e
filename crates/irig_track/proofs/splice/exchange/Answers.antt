use Rattle.std.proofs.Common.{◌≡◌, ◌+◌, ◌<◌, slice_get, Some, length, arith}
use Rattle.irig_track.proofs.Exchanges.{comes, goes, replaced_more, taken_more}
use Rattle.irig_track.proofs.splice.exchange.Goals as goal

pub loop-moved-preserved : goal.loop-moved-preserved
loop-moved-preserved c =
    let i = c.loop-moved.invariant in
    let m = c.loop-moved.moved in
    let g = c.args.pulses.now in
    let p = c.args.put.now in
    let k = c.args.taken.now in
    let at = c.args.at in
    let old = c.get.result in
    let come = c.in-Some.pulse in
    let there : at + m < length g.items = omega (arith, c.requires.there, c.loop-moved-test.true) in
    let few : m < length p.items = omega (arith, c.requires.put.1, c.loop-moved-test.true) in
    let next = comes p c.loop-moved.put c.take_right.new.self m come _ few i.put c.in-Some.is
    (λ lt. (c.take_right.ensures.item lt, c.take_right.ensures.rest lt)) in
    let was : slice_get g.items (at + m) ≡ Some old =
    goes g p k at m old come there c.loop-moved.pulses (omega (arith, few)) i.pulses c.get.ensures in
    record {
      few = omega (arith, c.loop-moved-test.true);
      put = next.1;
      taken = taken_more g p k at m old come there c.loop-moved.taken c.put.new.self was i.taken c.put.ensures;
      pulses = replaced_more g p k at m old come there c.loop-moved.pulses c.set.new.self was next.0 i.pulses c.set.ensures;
    }
