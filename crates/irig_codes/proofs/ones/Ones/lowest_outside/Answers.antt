use Rattle.std.proofs.Common.{ℕ, None, Some, subst, arith, bit_and}
use Rattle.std.specs.Int.{bit_not, trailing_zeros, w128}
use Rattle.irig_codes.specs.Ones.{IsLowestOutside}
use Rattle.irig_codes.proofs.Strays.{none-outside, some-outside}
use Rattle.irig_codes.proofs.ones.Ones.lowest_outside.Goals as goal

pub returns-then-rest-eq0 : goal.returns-then-rest-eq0
returns-then-rest-eq0 c =
    subst (λ (n : ℕ). IsLowestOutside n c.args.mask None) c.self.view_is (none-outside c.self.inside.bits c.args.mask c.ranges.mask.fits c.if-rest-eq0.true)

pub returns-else-rest-eq0 : goal.returns-else-rest-eq0
returns-else-rest-eq0 c =
    let low = trailing_zeros w128 (bit_and c.self.inside.bits (bit_not w128 c.args.mask)) in
    subst (λ (n : ℕ). IsLowestOutside n c.args.mask (Some low)) c.self.view_is
    (some-outside c.self.inside.bits c.args.mask c.ranges.mask.fits (omega (arith, c.if-rest-eq0.false)))
