use Rattle.std.proofs.Common.{◌≡◌, ◌+◌, ◌-◌, arith, ap, ◌∙◌}
use Rattle.irig_times.specs.Steps.{micros_between}
use Rattle.irig_timed.specs.Bends.{bend_at, bend_of, most_within}
use Rattle.irig_timed.proofs.StrayLines.{greatest-more, greatest-none}
use Rattle.irig_timed.proofs.off.most_within.Goals as goal

pub loop-number-init : goal.loop-number-init
loop-number-init c =
    let ps = c.args.pulses.now.track.pulses in
    let here : c.args.marker ≡ c.args.marker + 1 - 1 = omega arith in
    record {
      track = c.micros_between-step.ensures.pulses;
      step = c.micros_between-step.ensures.micros ∙ ap (λ k. micros_between ps k (c.args.marker + 1)) here;
      short = c.micros_between-step.ensures.low;
      low = omega arith;
      rest = omega arith;
    }

pub loop-number-preserved : goal.loop-number-preserved
loop-number-preserved c =
    let f = c.args.format in
    let ps = c.args.pulses.now.track.pulses in
    let inv = c.loop-number.invariant in
    let k = c.loop-number.number in
    let next : c.micros_between-next.result ≡ micros_between ps k (k + 1) =
    c.micros_between-next.ensures.micros ∙ ap (λ t. micros_between t.pulses k (k + 1)) inv.track in
    let bend : c.bend_of.result ≡ bend_at f ps k = c.bend_of.ensures.bend ∙ (λ i. bend_of f (inv.step i) (next i)) in
    let here : k ≡ k + 1 - 1 = omega arith in
    let more = greatest-more (bend_at f ps) c.loop-number.most c.bend_of.result k (c.args.marker + 99) (most_within f ps c.args.marker)
    c.loop-number-test.true bend inv.rest in
    record {
      track = c.micros_between-next.ensures.pulses ∙ inv.track;
      step = next ∙ ap (λ j. micros_between ps j (k + 1)) here;
      short = c.micros_between-next.ensures.low;
      low = omega (arith, inv.low, c.bend_of.ensures.low, c.greater-most.ensures);
      rest = omega (arith, more, c.greater-most.ensures);
    }

pub returns-clause-most : goal.returns-clause-most
returns-clause-most c =
    greatest-none (bend_at c.args.format c.args.pulses.now.track.pulses) c.loop-number.most c.loop-number.number (c.args.marker + 99)
    (most_within c.args.format c.args.pulses.now.track.pulses c.args.marker) c.loop-number-test.false c.loop-number.invariant.rest
