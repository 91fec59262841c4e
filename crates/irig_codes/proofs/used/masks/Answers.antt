use Rattle.std.proofs.Common.{refl}
use Rattle.irig_codes.specs.declared.format.Kind.TheVariants.{A, B, E, G}
use Rattle.irig_codes.specs.{Slots.slots_of, Used.masks_of}
use Rattle.irig_codes.proofs.Masks.{masks-are}
use Rattle.irig_codes.proofs.used.masks.Goals as goal

pub returns-in-A : goal.returns-in-A
unfolding masks_of slots_of
returns-in-A c = masks-are A _ _ c.in-A.is refl

pub returns-in-B : goal.returns-in-B
unfolding masks_of slots_of
returns-in-B c = masks-are B _ _ c.in-B.is refl

pub returns-in-E : goal.returns-in-E
unfolding masks_of slots_of
returns-in-E c = masks-are E _ _ c.in-E.is refl

pub returns-in-G : goal.returns-in-G
unfolding masks_of slots_of
returns-in-G c = masks-are G _ _ c.in-G.is refl
