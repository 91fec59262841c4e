-- What a cut through a text does to its words. This project's own.
use Rattle.std.specs.Prelude.{◌++◌, ℕ, Bool, true, false, not, List, [], ◌∷◌}
use Rattle.irig_vcd.specs.Words.{Word, is_space, before_space}

-- whether the last byte is of a word; inside says so of the byte before the first
abbrev pub ends_inside : Bool → List ℕ → Bool
ends_inside inside [] = inside
ends_inside inside (b ∷ bs) = ends_inside (not (is_space b)) bs

-- the bytes after a cut that are of the word before it, if the cut is inside that word
abbrev pub front_of : Bool → List ℕ → List ℕ
front_of true bytes = before_space bytes
front_of false bytes = []

-- words, the last of them with more bytes
abbrev pub with_more : List ℕ → List Word → List Word
with_more more [] = []
with_more more (w ∷ []) =
    record { kind = w.kind; bytes = w.bytes ++ more; offset = w.offset } ∷ []
with_more more (w ∷ v ∷ ws) = w ∷ with_more more (v ∷ ws)
