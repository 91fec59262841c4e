-- The time that is free between two pulses. This project's own.
use Rattle.std.specs.Prelude.{ℕ, ◌+◌, List, [], ◌∷◌}

-- the least number that may follow a rising list from low on
abbrev pub following : ℕ → List ℕ → ℕ
following low [] = low
following low (x ∷ xs) = following (x + 1) xs

-- the first number, or d if there is none
abbrev pub first_or : ℕ → List ℕ → ℕ
first_or d [] = d
first_or d (x ∷ xs) = x
