-- The names of units of time, and the number before one. This project's own; they are those that
-- the tools read, too.
use Rattle.std.specs.Prelude.{◌==◌, ◌+◌, ◌&&◌, ◌||◌, ℕ, Bool, true, false, nat_le, List, [], ◌∷◌}
use Rattle.std.specs.Prelude.{Option, Some, None, codes, if◌then◌else◌}

-- a small letter of ASCII for a capital one
abbrev pub lower : ℕ → ℕ
lower b = if nat_le 65 b && nat_le b 90 then b + 32 else b

-- what is after a small letter, if a name begins with it
abbrev pub after_letter : ℕ → List ℕ → Option (List ℕ)
after_letter letter [] = None
after_letter letter (b ∷ bs) = if lower b == letter then Some bs else None

-- what is after a word, if a name begins with it
abbrev pub and_then : Option (List ℕ) → (List ℕ → Option (List ℕ)) → Option (List ℕ)
and_then None next = None
and_then (Some left) next = next left

abbrev pub after_word : List ℕ → List ℕ → Option (List ℕ)
after_word [] name = Some name
after_word (w ∷ ws) name = and_then (after_letter w name) (after_word ws)

-- a name is this word
abbrev pub none_left : Option (List ℕ) → Bool
none_left None = false
none_left (Some []) = true
none_left (Some (b ∷ bs)) = false

abbrev pub is_word : List ℕ → List ℕ → Bool
is_word word name = none_left (after_word word name)

-- a second, in English, German or French
abbrev pub is_second : List ℕ → Bool
is_second name = is_word (codes "s") name || (is_word (codes "sec") name
    || (is_word (codes "second") name || (is_word (codes "seconds") name
    || (is_word (codes "sek") name || (is_word (codes "sekunden") name
    || is_word (codes "secondes") name)))))

-- a part of a second
abbrev pub second_left : Option (List ℕ) → Bool
second_left None = false
second_left (Some left) = is_second left

abbrev pub is_part : List ℕ → List ℕ → Bool
is_part word name = second_left (after_word word name)

-- a microsecond, also with the sign of micro: two in UTF-8, and the one of Latin-1
abbrev pub is_micro : List ℕ → Bool
is_micro name = is_part (codes "u") name || (is_part (codes "micro") name
    || (is_part (codes "mikro") name || (is_part (194 ∷ 181 ∷ []) name
    || (is_part (206 ∷ 188 ∷ []) name || is_part (181 ∷ []) name))))

-- 10^n femtoseconds are the unit with this name
abbrev pub unit_places : List ℕ → Option ℕ
unit_places name =
    if is_second name then Some 15
    else (if is_part (codes "m") name || is_part (codes "milli") name then Some 12
    else (if is_micro name then Some 9
    else (if is_part (codes "n") name || is_part (codes "nano") name then Some 6
    else (if is_part (codes "p") name || is_part (codes "pico") name then Some 3
    else (if is_part (codes "f") name || is_part (codes "femto") name then Some 0 else None)))))

-- the zeros of the number before a unit: of none, 1, 10 or 100
abbrev pub zeros_of : List ℕ → Option ℕ
zeros_of [] = Some 0
zeros_of (a ∷ []) = if a == 49 then Some 0 else None
zeros_of (a ∷ b ∷ []) = if (a == 49) && (b == 48) then Some 1 else None
zeros_of (a ∷ b ∷ c ∷ []) = if (a == 49) && ((b == 48) && (c == 48)) then Some 2 else None
zeros_of (a ∷ b ∷ c ∷ d ∷ ds) = None

-- that many zeros more
abbrev pub with_zeros : Option ℕ → Option ℕ → Option ℕ
with_zeros None unit = None
with_zeros (Some more) None = None
with_zeros (Some more) (Some unit) = Some (unit + more)
