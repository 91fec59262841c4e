use Rattle.std.proofs.Common.{arith, refl}
use Rattle.irig_gap.proofs.GapLemmas.{shows, all_left, all_right, length-left, copied_sides}
use Rattle.irig_gap.proofs.gap.Gap.copy_to.Goals as goal

pub copy_items-requires-clause-full : goal.copy_items-requires-clause-full
copy_items-requires-clause-full g c = all_left _ _ _ _ c.self.view_is c.self.invariant.0

pub copy_items-requires-2-clause-full : goal.copy_items-requires-2-clause-full
copy_items-requires-2-clause-full g c = λ k. all_right _ _ _ _ c.self.view_is c.self.invariant.0 _ k (omega (arith, c.self.invariant.1))

pub copy_items-requires-2-clause-room : goal.copy_items-requires-2-clause-room
copy_items-requires-2-clause-room g c =
    let s = shows _ _ _ _ c.self.view_is c.self.invariant.0 in
    let long = length-left _ _ _ _ c.self.view_is c.self.invariant.0 _ _ _ c.requires.len c.requires.longer c.copy_items.ensures.slots in
    omega (arith, long, c.requires.longer, c.self.invariant.1)

pub copy_items-requires-2-clause-fits : goal.copy_items-requires-2-clause-fits
copy_items-requires-2-clause-fits g c =
    let s = shows _ _ _ _ c.self.view_is c.self.invariant.0 in let fits = c.ranges.len.fits in
    (omega (arith, c.self.invariant.1, c.self.invariant.2), omega (arith, fits, c.requires.longer, c.self.invariant.1))

pub returns-clause-items : goal.returns-clause-items
returns-clause-items g c = (copied_sides _ _ _ _ c.self.view_is c.self.invariant.0 _ _ _ _ _ _ c.requires.len c.requires.longer
    (omega (arith, c.self.invariant.1)) refl c.copy_items.ensures.slots c.copy_items-2.ensures.slots).0

pub returns-clause-end : goal.returns-clause-end
returns-clause-end g c =
    let s = shows _ _ _ _ c.self.view_is c.self.invariant.0 in omega (arith, c.requires.longer, c.self.invariant.1)

pub returns-clause-len : goal.returns-clause-len
returns-clause-len g c = (copied_sides _ _ _ _ c.self.view_is c.self.invariant.0 _ _ _ _ _ _ c.requires.len c.requires.longer
    (omega (arith, c.self.invariant.1)) refl c.copy_items.ensures.slots c.copy_items-2.ensures.slots).1
