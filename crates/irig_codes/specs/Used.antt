-- The elements of a format that carry a bit, as the bits of a number: element k is bit k.
-- This project's own.
use Rattle.std.specs.Prelude.{ℕ, ◌+◌, ◌*◌, List, [], ◌∷◌, map}
use Rattle.std.specs.List.{range_with_len}
use Rattle.irig_codes.specs.declared.layout.Slot.TheVariants.{Identifier, Unused, Bit}
use Rattle.irig_codes.specs.Format.{has_control, has_sbs, has_year}
use Rattle.irig_codes.specs.{declared.format.Kind.Kind, declared.layout.Slot.Slot, Slots.slots_of}

-- the slots that carry a bit
abbrev pub used_of : List Slot → ℕ
used_of [] = 0
used_of (Identifier ∷ ss) = 2 * used_of ss
used_of (Unused ∷ ss) = 2 * used_of ss
used_of (Bit d p ∷ ss) = 1 + 2 * used_of ss

-- those of a kind with the expression of this number
abbrev pub used_in : Kind → ℕ → ℕ
used_in k n = used_of (slots_of k (has_control n) (has_sbs n) (has_year n))

-- those of the expressions 0 to 7, whether or not the kind permits them; shut, so that they are
-- computed only if a proof asks
unfoldable pub masks_of : Kind → List ℕ
masks_of k = map (used_in k) (range_with_len 0 8)
