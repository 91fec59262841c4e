-- What each element of a frame can be, by the layout of its format. This project's own.
use Rattle.std.specs.Prelude.{List, map}
use Rattle.irig_codes.specs.{Format.FormatView, Slots.slots_at, declared.layout.Slot.Slot}
use Rattle.irig_codes.specs.declared.layout.Slot.TheVariants as slot
use Rattle.irig_explaining.specs.declared.role.Role.{Role}
use Rattle.irig_explaining.specs.declared.role.Role.TheVariants.{Unused, Bit, Position}

abbrev pub role_of : Slot → Role
role_of slot.Identifier = Position
role_of slot.Unused = Unused
role_of (slot.Bit digit place) = Bit

abbrev pub roles_of : FormatView → List Role
roles_of f = map role_of (slots_at f)
