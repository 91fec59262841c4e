-- The letters of marks: a to z, which count from 0. This project's own.
use Rattle.std.specs.Prelude.{◌+◌, ℕ, List, [], ◌∷◌}

-- a letter as a word
abbrev pub letter_word : ℕ → List ℕ
letter_word letter = (97 + letter) ∷ []
