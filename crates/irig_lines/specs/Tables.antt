-- Tables of words. This project's own.
use Rattle.std.specs.Prelude.{List, [], ◌∷◌, ℕ, Option, Some, None, if◌then◌else◌}
use Rattle.std.specs.Str.{bytes_eq}

-- what a text means by the first row of its word
abbrev pub found : {T : Type 0} → List ℕ → List (List ℕ × T) → Option T
found text [] = None
found text (row ∷ rows) = if bytes_eq text row.0 then Some row.1 else found text rows
