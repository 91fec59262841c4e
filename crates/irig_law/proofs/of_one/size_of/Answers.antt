use Rattle.std.proofs.Common.{◌≡◌, ◌+◌, ◌-◌, ℕ, arith, ap, length, min, ◌∙◌}
use Rattle.irig_law.specs.OfOne.{share, sum_from}
use Rattle.irig_law.proofs.AnyFrom.{sum-more, sum-none}
use Rattle.irig_law.proofs.of_one.size_of.Goals as goal

pub loop-other-preserved : goal.loop-other-preserved
loop-other-preserved c =
    let count = share c.args.format c.args.century c.args.chains.now c.args.one in
    let more = sum-more count c.loop-other.other c.min-end.result c.loop-other-test.true in
    let is = c.share-total.ensures.share in
    let sum = c.loop-other.invariant.sum in
    let low = c.loop-other.invariant.low in
    let from = c.loop-other.auto.other in
    record {
      low = omega (arith, low, from, c.share-total.ensures.low);
      sum = omega (arith, more, is, sum);
    }

pub returns-clause-size : goal.returns-clause-size
returns-clause-size c =
    let count = share c.args.format c.args.century c.args.chains.now c.args.one in
    let first = c.saturating_sub-first.ensures in
    let end : c.min-end.result ≡ min (length c.args.chains.now) (c.args.one + 496) = omega (arith, c.min-end.ensures) in
    let none = sum-none count c.loop-other.other c.min-end.result c.loop-other-test.false in
    let sum = c.loop-other.invariant.sum in
    let total : c.loop-other.total ≡ sum_from count c.saturating_sub-first.result (c.min-end.result - c.saturating_sub-first.result) =
    omega (arith, none, sum) in
    total ∙ (ap (λ (s : ℕ). sum_from count s (c.min-end.result - s)) first
    ∙ ap (λ (e : ℕ). sum_from count (c.args.one - 495) (e - (c.args.one - 495))) end)

pub returns-clause-low : goal.returns-clause-low
returns-clause-low c =
    let low = c.loop-other.invariant.low in
    let first = c.saturating_sub-first.ensures in
    let near = c.loop-other.auto.other-end in
    omega (arith, low, first, near, c.min-end.ensures)
