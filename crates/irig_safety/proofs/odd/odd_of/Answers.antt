use Rattle.std.proofs.Common.{◌≡◌, arith}
use Rattle.irig_codes.specs.Format.{control_count_of}
use Rattle.irig_safety.proofs.OddLemmas.{odd_all, odd_more}
use Rattle.irig_safety.proofs.odd.odd_of.Goals as goal

pub loop-function-preserved : goal.loop-function-preserved
loop-function-preserved c =
    odd_more c.args.format c.args.pulses.now c.args.marker c.args.frame.now c.loop-function.function _ c.loop-function.odd.items _ _ c.loop-function.invariant
    c.function_element-element.ensures c.is_odd-is_odd_pulse.ensures c.in_ok-add_if.ensures

pub returns : goal.returns
returns c =
    let end : c.loop-function.function ≡ control_count_of c.args.format =
    omega (arith, c.loop-function-test.false, c.loop-function.auto.function-end, c.functions-function-end.ensures.value) in
    odd_all c.args.format c.args.pulses.now c.args.marker c.args.frame.now c.loop-function.function c.loop-function.odd.items c.loop-function.invariant end
