use Rattle.std.proofs.Common.{arith}
use Rattle.irig_law.proofs.fits.meet.Goals as goal

pub returns : goal.returns
returns c = (
  λ no. absurd cc,
  λ m. absurd (c.loop-place.invariant m.0 (let inside = m.1.inside in omega (arith, inside, c.loop-place-test.false, c.loop-place.auto.place-end)) m.1),
)
