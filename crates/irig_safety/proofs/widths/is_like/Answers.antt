use Rattle.std.proofs.Common.{◌≡◌, ◌≤◌, ◌+◌, ◌/◌, ◌∙◌, ap, arith, sym}
use Rattle.irig_codes.specs.Format.{interval_of}
use Rattle.irig_safety.specs.Widths.{width_in}
use Rattle.irig_safety.proofs.WidthLemmas.{like_not_odd}
use Rattle.irig_safety.proofs.widths.is_like.Goals as goal

pub returns-then-is_close : goal.returns-then-is_close
returns-then-is_close c = λ t.
    let close = c.is_close.ensures c.if-is_close.true in
    let first = close.0 in
    let second = close.1 in
    let part : c.interval.result / 100 ≡ interval_of c.args.format.kind / 100 = ap (λ n. n / 100) c.interval.ensures.value in
    let one = c.width_in-one.ensures in
    let two = c.width_in-two.ensures in
    let below : width_in c.args.pulses.now c.args.marker c.args.element
    ≤ width_in c.args.pulses.now c.args.marker c.args.other + interval_of c.args.format.kind / 100 = omega (arith, first, part, one, two) in
    let above : width_in c.args.pulses.now c.args.marker c.args.other
    ≤ width_in c.args.pulses.now c.args.marker c.args.element + interval_of c.args.format.kind / 100 = omega (arith, second, part, one, two) in
    like_not_odd c.args.format c.args.pulses.now c.args.marker c.args.element c.args.other c.requires (sym c.is_other_of_class.ensures ∙ t) below above
