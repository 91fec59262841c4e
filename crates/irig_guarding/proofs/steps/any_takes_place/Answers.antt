use Rattle.std.proofs.Common.{◌≡◌, ◌+◌, ◌-◌, arith, sym}
use Rattle.irig_guarding.proofs.StepsLemmas.{place_more, place_none, place_there}
use Rattle.irig_guarding.proofs.steps.any_takes_place.Goals as goal

pub returns-then-is_in_place : goal.returns-then-is_in_place
returns-then-is_in_place c =
    sym (place_there c.args.session.now.state.format c.current_format.result c.args.session.now.state.pulses _ c.args.time _ _ c.current_format.ensures
    c.pulse.ensures c.is_in_place.ensures c.if-is_in_place.true)

pub loop-index-preserved : goal.loop-index-preserved
loop-index-preserved c =
    let here : c.loop-index.index + 1 - 1 ≡ c.loop-index.index = omega arith in
    place_more c.args.session.now.state.format c.current_format.result c.args.session.now.state.pulses c.loop-index.index _ c.args.time _ _
    c.current_format.ensures here c.pulse.ensures c.is_in_place.ensures c.if-is_in_place.false c.loop-index.invariant

pub returns : goal.returns
returns c = place_none c.args.session.now.state.format c.args.session.now.state.pulses c.loop-index.index c.args.time
    (omega (arith, c.loop-index-test.false, c.len-index-end.ensures)) c.loop-index.invariant
