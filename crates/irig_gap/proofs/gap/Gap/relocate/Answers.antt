use Rattle.std.proofs.Common.{arith}
use Rattle.irig_gap.proofs.GapLemmas.{grown}
use Rattle.irig_gap.proofs.gap.Gap.relocate.Goals as goal

pub invariant_of-self : goal.invariant_of-self
invariant_of-self g c =
    let held = grown _ _ _ _ c.self.view_is c.self.invariant.0 _ _ _ c.copy_to-after.ensures.end (omega (arith, c.requires)) c.copy_to-after.ensures.len
    c.copy_to-after.ensures.items in (
      rw c.swap.ensures.x_after held.0,
      rw c.swap.ensures.x_after c.copy_to-after.ensures.len,
      c.ranges.wanted.fits,
      rw c.swap.ensures.x_after (rw c.copy_to-after.ensures.start (rw c.replace-old.ensures.after c.in-Ok.ensures.places.1)),
    )

pub returns-clause-ok : goal.returns-clause-ok
returns-clause-ok g c =
    rw c.swap.ensures.x_after (grown _ _ _ _ c.self.view_is c.self.invariant.0 _ _ _ c.copy_to-after.ensures.end (omega (arith, c.requires))
    c.copy_to-after.ensures.len c.copy_to-after.ensures.items).1
