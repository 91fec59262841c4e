-- A number in decimal digits, as the code reads it.
use Rattle.std.specs.Prelude.{ℕ, List, Option, Some, None, if◌then◌else◌, min}
use Rattle.std.specs.List.{list_all}
use Rattle.irig_vcd.specs.Digits.{is_digit, number_from}

-- the number that digits spell after a number, or 2^41 if it is above
abbrev pub capped_from : ℕ → List ℕ → Option ℕ
capped_from n digits =
    if list_all is_digit digits then Some (min (number_from n digits) 2199023255552) else None
