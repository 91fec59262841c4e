use Rattle.std.proofs.Common.{◌≡◌, ◌-◌, ◌*◌, Some, arith, sym, ap, ◌∙◌}
use Rattle.std.proofs.lemmas.Option.{same_Some}
use Rattle.irig_law.specs.{Clocks.slack_of, Denials.seen_after, Denials.seen_before}
use Rattle.irig_law.specs.Quiet.{denied_at, denied_frame, one_of}
use Rattle.irig_law.proofs.{AnyFrom.sum-more, AnyFrom.sum-none, Doubted.one-low}
use Rattle.irig_law.proofs.doubts.denials_of.Goals as goal

pub loop-number-preserved : goal.loop-number-preserved
loop-number-preserved c =
    let f = c.args.format in
    let ps = c.args.pulses.now.track.pulses in
    let a = c.args.from.now in
    let b = c.args.to.now in
    let n = c.args.periods in
    let k = c.loop-number.number in
    let before = c.loop-number.invariant in
    let low = c.loop-number.auto.number in
    let high = c.loop-number-test.true in
    let r = c.requires in
    let same : c.loop-number.pulses.track.pulses ≡ ps = ap (λ t. t.pulses) before.track in
    let one = same_Some c.seen_at-one.result (seen_after f ps a (slack_of ps a b) k)
    (sym c.seen_at-one.ensures ∙ r.after.each k (omega (arith, low, high, r.long))) in
    let other = same_Some c.seen_at-other.result (seen_before f ps b (slack_of ps a b) k)
    (sym c.seen_at-other.ensures ∙ r.before.each k (omega (arith, low, high, r.long_too))) in
    let is : c.denied_frame-frame.result ≡ denied_at f ps a b n k =
    c.denied_frame-frame.ensures.denied ∙ (λ i. denied_frame f (same i) a b (100 * n) k (one i) (other i)) in
    record {
      track = c.denied_frame-frame.ensures.pulses ∙ before.track;
      kept = c.denied_frame-frame.ensures.kept;
      few = λ q. (let more = c.in_ok-count.ensures.counted q in
          let most = one-low q c.denied_frame-frame.result in
          let was = before.few q in omega (arith, more, most, was));
      sum = λ q. (let more = c.in_ok-count.ensures.counted q in
          let next = sum-more (λ k. one_of q (denied_at f ps a b n k)) k b.marker high in
          let here = ap (λ o. one_of q o) is in
          let was = before.sum q in omega (arith, more, next, here, was));
    }

pub returns-clause-denials : goal.returns-clause-denials
returns-clause-denials c q =
    let ps = c.args.pulses.now.track.pulses in
    let none = sum-none (λ k. one_of q (denied_at c.args.format ps c.args.from.now c.args.to.now c.args.periods k)) c.loop-number.number
    c.args.to.now.marker c.loop-number-test.false in
    let was = c.loop-number.invariant.sum q in
    omega (arith, none, was)

pub count-requires-clause-few : goal.count-requires-clause-few
count-requires-clause-few c q =
    let low = c.loop-number.invariant.few q in
    omega (arith, low, c.loop-number-test.true, c.requires.order.1)

pub denied_frame-frame-requires-clause-low : goal.denied_frame-frame-requires-clause-low
denied_frame-frame-requires-clause-low c e at =
    c.requires.after.low (c.loop-number.number - c.args.from.now.marker) e (c.seen_at-one.ensures ∙ ap Some at)

pub denied_frame-frame-requires-clause-low_too : goal.denied_frame-frame-requires-clause-low_too
denied_frame-frame-requires-clause-low_too c e at =
    c.requires.before.low (c.args.to.now.marker - c.loop-number.number) e (c.seen_at-other.ensures ∙ ap Some at)
