-- What is printed of a text if the output fails. This project's own.
use Rattle.std.specs.Prelude.{◌≡◌, ◌++◌, ℕ, List, Option}
use Rattle.std.specs.Io.KnownBytes.{Appends}

-- a front of the text was printed
pub record AppendsFront (old new : Option (List ℕ)) (text : List ℕ) : Type 0 where
  pub front : List ℕ
  pub back : List ℕ
  pub part : text ≡ front ++ back
  pub appends : Appends old new front
