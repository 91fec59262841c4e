use Rattle.std.proofs.Common.{arith}
use Rattle.std.proofs.lemmas.List.Sums.{sum_by-take-le}
use Rattle.irig_candidates.specs.{Bits.is_one, Bits.price, Times.time_of}
use Rattle.irig_candidates.proofs.code.Code.cost_below.Goals as goal

pub returns-then-most-total : goal.returns-then-most-total
returns-then-most-total c =
    let f = c.args.self.now in
    let less = sum_by-take-le (λ b. price b (is_one f (time_of f.kind c.args.base b.frame) b.element)) c.args.bits.now c.loop-bit.bit-index in
    omega (arith, less, c.loop-bit.invariant.sum, c.if-most-total.true)
