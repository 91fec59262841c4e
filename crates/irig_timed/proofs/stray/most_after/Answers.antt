use Rattle.std.proofs.Common.{◌≡◌, ap, arith, ◌∙◌}
use Rattle.irig_timed.specs.Strays.{line_off, most_after}
use Rattle.irig_timed.proofs.StrayLines.{greatest-more, greatest-none}
use Rattle.irig_timed.proofs.stray.most_after.Goals as goal

pub loop-later-preserved : goal.loop-later-preserved
loop-later-preserved c =
    let ps = c.args.pulses.now.track.pulses in
    let inv = c.loop-later.invariant in
    let k = c.loop-later.later in
    let value = line_off ps c.args.long c.args.elements c.args.number in
    let here : c.line_off-off.result ≡ value k =
    c.line_off-off.ensures.off ∙ ap (λ t. line_off t.pulses c.args.long c.args.elements c.args.number k) inv.track in
    let more = greatest-more value c.loop-later.most c.line_off-off.result k c.min-last.result
    (most_after ps c.args.long c.args.elements c.args.end c.args.number) c.loop-later-test.true here inv.rest in
    record {
      track = c.line_off-off.ensures.pulses ∙ inv.track;
      low = omega (arith, inv.low, c.line_off-off.ensures.low, c.greater-most.ensures);
      rest = omega (arith, more, c.greater-most.ensures);
    }

pub returns-clause-most : goal.returns-clause-most
returns-clause-most c =
    greatest-none (line_off c.args.pulses.now.track.pulses c.args.long c.args.elements c.args.number) c.loop-later.most c.loop-later.later
    c.min-last.result (most_after c.args.pulses.now.track.pulses c.args.long c.args.elements c.args.end c.args.number)
    c.loop-later-test.false c.loop-later.invariant.rest
