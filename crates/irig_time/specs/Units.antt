-- The units of the recorder's time, as --unit names them. This project's own.
use Rattle.std.specs.Prelude.{◌==◌, ◌+◌, ℕ, List, [], ◌∷◌, Option, Some, None, if◌then◌else◌}

-- 10^n picoseconds are the unit with this letter before its s
abbrev pub prefix_places : ℕ → Option ℕ
prefix_places p =
    if p == 109 then Some 9 else (if p == 117 then Some 6
    else (if p == 110 then Some 3 else (if p == 112 then Some 0 else None)))

-- 10^n picoseconds are the unit with this name: s, ms, us, ns or ps
abbrev pub unit_places : List ℕ → Option ℕ
unit_places [] = None
unit_places (b ∷ []) = if b == 115 then Some 12 else None
unit_places (p ∷ b ∷ []) = if b == 115 then prefix_places p else None
unit_places (p ∷ b ∷ c ∷ bs) = None

-- some more places, if there are any
abbrev pub with_places : ℕ → Option ℕ → Option ℕ
with_places more None = None
with_places more (Some n) = Some (n + more)

-- 10^n picoseconds are that many of a unit, if this comes after 10
abbrev pub places_after_ten : List ℕ → Option ℕ
places_after_ten [] = None
places_after_ten (b ∷ bs) =
    if b == 48 then with_places 2 (unit_places bs) else with_places 1 (unit_places (b ∷ bs))

-- 10^n picoseconds are that many of a unit, if this comes after 1
abbrev pub places_after_one : List ℕ → Option ℕ
places_after_one [] = None
places_after_one (b ∷ bs) = if b == 48 then places_after_ten bs else unit_places (b ∷ bs)

-- 10^n picoseconds are a unit, or 1, 10 or 100 of it, as 100ns: as a dump has them
abbrev pub places_named : List ℕ → Option ℕ
places_named [] = None
places_named (b ∷ bs) = if b == 49 then places_after_one bs else unit_places (b ∷ bs)
