-- The level that a value gives the wire: IEEE 1364-2005, clause 18; the levels are this project's
-- own.
use Rattle.std.specs.Prelude.{◌-◌, ◌==◌, ℕ, Bool, not, List, [], ◌∷◌, length, slice_index, Option}
use Rattle.std.specs.Prelude.{Some, None, Result, Ok, Err, if◌then◌else◌, nat_lt}
use Rattle.std.specs.Str.{bytes_eq}
use Rattle.irig_vcd.specs.Words.{Word, WordKind, vector, is_value, rest_of}
use Rattle.irig_vcd.specs.declared.fault.VcdFault.{VcdFault}
use Rattle.irig_vcd.specs.declared.fault.VcdFault.TheVariants.{BadToken}

-- of 0 1 x X z Z only 1 is high
abbrev pub is_high : ℕ → Bool
is_high b = b == 49

-- the first byte
abbrev pub first_of : List ℕ → ℕ
first_of [] = 0
first_of (b ∷ bs) = b

-- the level of a value on the wire; a value on another wire gives none
abbrev pub level_if : Bool → ℕ → Option Bool
level_if mine b = if mine then Some (is_high b) else None

-- a value with its code after it in one word
abbrev pub scalar_level : List ℕ → Word → Result (Option Bool) VcdFault
scalar_level code w =
    if length (rest_of w.bytes) == 0 then Err (BadToken w.offset)
    else Ok (level_if (bytes_eq (rest_of w.bytes) code) (first_of w.bytes))

-- the level of a byte that has to be a value
abbrev pub value_level : ℕ → ℕ → Result (Option Bool) VcdFault
value_level offset b = if is_value b then Ok (Some (is_high b)) else Err (BadToken offset)

-- a vector has the level of its last byte, which is not its first, on the wire's code alone
abbrev pub vector_level : List ℕ → Word → List ℕ → Result (Option Bool) VcdFault
vector_level code w behind =
    if not (bytes_eq behind code) then Ok None
    else (if nat_lt (length w.bytes) 2 then Err (BadToken w.offset)
    else value_level w.offset (slice_index w.bytes (length w.bytes - 1)))

-- a value and the word after it, its code: real and text values say nothing
abbrev pub level_by : WordKind → List ℕ → Word → List ℕ → Result (Option Bool) VcdFault
level_by vector code w behind = vector_level code w behind
level_by _ code w behind = Ok None
