-- The window of a dump that the options of a command line name. This project's own.
use Rattle.std.specs.Prelude.{◌≡◌, ◌&&◌, ◌||◌, ◌<◌, ◌≤◌, ℕ, Bool, true, List, Option, Some}
use Rattle.std.specs.Prelude.{None, codes, if◌then◌else◌, is_some, min, nat_le, unwrap_or}
use Rattle.std.specs.List.{list_all}
use Rattle.irig_vcd.specs.{Digits.is_digit, Digits.is_number, Digits.number_from}
use Rattle.irig_vcd.specs.declared.window.Window.{Window}
use Rattle.irig_words.specs.declared.windows.WindowFault.{WindowFault}
use Rattle.irig_words.specs.declared.windows.WindowFault.TheVariants as fault

-- the number that digits spell, or 2^64 if it is above
abbrev pub spelt : ℕ → List ℕ → Option ℕ
spelt before digits =
    if list_all is_digit digits then Some (min (number_from before digits) 18446744073709551616)
    else None

-- a time in microseconds: one or more digits of a number that is at most 2^64 - 1
abbrev pub time_named : List ℕ → Option ℕ
time_named text =
    if is_number text && nat_le (number_from 0 text) 18446744073709551615
    then Some (number_from 0 text) else None

-- the first microsecond of the window: 0, if it is not given
abbrev pub first_of : Option (List ℕ) → Option ℕ
first_of from = time_named (unwrap_or from (codes "0"))

-- the first one after it that is not of the window: none that a dump has, if it is not given
abbrev pub end_of : Option (List ℕ) → Option ℕ
end_of to = time_named (unwrap_or to (codes "18446744073709551615"))

-- one of two times is given, or both are
abbrev pub is_given : Option (List ℕ) → Option (List ℕ) → Bool
is_given from to = is_some from || is_some to

-- the window is from the one time to the other; there is one if one of them is given, and only then
abbrev pub IsWindow : Option (List ℕ) → Option (List ℕ) → Option Window → Type 0
IsWindow from to None = (from ≡ None) × (to ≡ None)
IsWindow from to (Some w) = (is_given from to ≡ true)
    × ((first_of from ≡ Some w.from) × ((end_of to ≡ Some w.to) × (w.from ≤ w.to)))

-- an end of the window is no time, or the window ends before it begins
abbrev pub HasWindowFault : Option (List ℕ) → Option (List ℕ) → WindowFault → Type 0
HasWindowFault from to fault.From = first_of from ≡ None
HasWindowFault from to fault.To = end_of to ≡ None
HasWindowFault from to fault.Early =
    (first : ℕ) × (end : ℕ) × (first_of from ≡ Some first) × (end_of to ≡ Some end) × (end < first)
