-- How long a proposed script can be. This project's own.
use Rattle.std.specs.Prelude.{◌≡◌, ◌≤◌, ◌<◌, ◌↔◌, ◌^◌, ℕ, List, Option, Result, Err, IfSome, length}
use Rattle.irig_guarding.specs.declared.product.GuardFault.{GuardFault}
use Rattle.irig_guarding.specs.declared.product.GuardFault.TheVariants.{Dump, ReadFailed}
use Rattle.irig_guarding.specs.declared.product.GuardFault.TheVariants.{ScriptTooLong}
use Rattle.irig_guarding.specs.declared.product.Kept.{Kept}

-- the most bytes of a script
abbrev pub script_limit : ℕ
script_limit = 2 ^ 23

-- the script has no more
abbrev pub IsShort : Option (List ℕ) → Type 0
IsShort script = IfSome script (λ all. length all ≤ script_limit)

-- the script has more
abbrev pub IsTooLong : Option (List ℕ) → Type 0
IsTooLong script = IfSome script (λ all. script_limit < length all)

-- the script is refused as too long exactly if it is, unless the dump is not opened or a read fails
abbrev pub IsRefusedIfTooLong : Option (List ℕ) → Result Kept GuardFault → Type 0
IsRefusedIfTooLong script (Err (Dump fault)) = Unit {0}
IsRefusedIfTooLong script (Err ReadFailed) = Unit {0}
IsRefusedIfTooLong script result =
    IfSome script (λ all. (result ≡ Err ScriptTooLong) ↔ (script_limit < length all))
