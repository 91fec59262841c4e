-- The classes of elements from which a jump leads. This project's own.
use Rattle.std.specs.Prelude.{ℕ}
use Rattle.irig_explaining.specs.declared.{prices.Prices.Prices, role.Role.Role}
use Rattle.irig_explaining.specs.declared.role.Role.TheVariants.{Unused, Bit, Position}
use Rattle.irig_explaining.specs.Priced.{role_at}

-- each role has one
abbrev pub class_of : Role → ℕ
class_of Unused = 0
class_of Bit = 1
class_of Position = 2

abbrev pub class_at : Prices → ℕ → ℕ
class_at p e = class_of (role_at p e)
