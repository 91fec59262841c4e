use Rattle.std.proofs.Common.{◌≡◌, ◌+◌, ap, arith, ◌∙◌}
use Rattle.irig_timed.specs.Strays.{most_after, strays_in}
use Rattle.irig_timed.proofs.StrayLines.{greatest-more, greatest-none}
use Rattle.irig_timed.proofs.stray.strays_in.Goals as goal

pub loop-number-preserved : goal.loop-number-preserved
loop-number-preserved c =
    let ps = c.args.pulses.now.track.pulses in
    let inv = c.loop-number.invariant in
    let k = c.loop-number.number in
    let end = c.args.marker + 100 in
    let value = most_after ps c.args.long c.args.elements end in
    let here : c.most_after-off.result ≡ value k =
    c.most_after-off.ensures.most ∙ ap (λ t. most_after t.pulses c.args.long c.args.elements end k) inv.track in
    let more = greatest-more value c.loop-number.most c.most_after-off.result k end
    (strays_in ps c.args.long c.args.elements c.args.marker) c.loop-number-test.true here inv.rest in
    record {
      track = c.most_after-off.ensures.pulses ∙ inv.track;
      low = omega (arith, inv.low, c.most_after-off.ensures.low, c.greater-most.ensures);
      rest = omega (arith, more, c.greater-most.ensures);
    }

pub returns-clause-most : goal.returns-clause-most
returns-clause-most c =
    greatest-none (most_after c.args.pulses.now.track.pulses c.args.long c.args.elements (c.args.marker + 100)) c.loop-number.most
    c.loop-number.number (c.args.marker + 100) (strays_in c.args.pulses.now.track.pulses c.args.long c.args.elements c.args.marker)
    c.loop-number-test.false c.loop-number.invariant.rest
