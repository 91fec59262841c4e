-- The name of the column of times. This project's own.
use Rattle.std.specs.Prelude.{◌==◌, ◌&&◌, ◌||◌, ℕ, Bool, not, List, Option, Some, None, length}
use Rattle.std.specs.Prelude.{codes}
use Rattle.std.specs.{List.list_any, Str.bytes_eq}

-- whether a text has a byte
abbrev pub has : ℕ → List ℕ → Bool
has byte text = list_any (λ b. b == byte) text

-- whether it has something that parts columns: white space, if no byte does
abbrev pub has_comma : Option ℕ → List ℕ → Bool
has_comma None text = has 32 text || has 9 text
has_comma (Some c) text = has c text

-- a column can have this name: it has some bytes, no quote, no end of a line, and nothing that
-- parts columns
abbrev pub is_name : Option ℕ → List ℕ → Bool
is_name comma name = not (length name == 0)
    && (not (has 34 name) && (not (has 10 name) &&
    (not (has 13 name) && not (has_comma comma name))))

-- the column of bounds is asked for, and has this name
abbrev pub is_of_bounds : Bool → List ℕ → Bool
is_of_bounds bound name = bound && bytes_eq name (codes "bound_us")
