use Rattle.std.proofs.Common.{◌≡◌, arith}
use Rattle.irig_safety.proofs.WidthLemmas.{spread_all}
use Rattle.irig_safety.proofs.widths.spread_of.Goals as goal

pub returns : goal.returns
returns c =
    let end : c.loop-other.other ≡ 100 = omega (arith, c.loop-other-test.false, c.loop-other.auto.other-end) in
    spread_all c.args.format c.args.pulses.now c.args.marker c.args.element c.loop-other.other c.loop-other.spread end c.loop-other.invariant.1
