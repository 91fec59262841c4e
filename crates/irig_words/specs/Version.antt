-- Which words ask for the version. This project's own.
use Rattle.std.specs.Prelude.{Bool, false, List, [], ◌∷◌, codes}
use Rattle.std.specs.Str.{bytes_eq}
use Rattle.clap.specs.Words.{Text}

-- after the program's name there is just this one
abbrev pub asks_version : List Text → Bool
asks_version [] = false
asks_version (name ∷ []) = false
asks_version (name ∷ word ∷ []) = bytes_eq word (codes "--version")
asks_version (name ∷ word ∷ other ∷ words) = false
