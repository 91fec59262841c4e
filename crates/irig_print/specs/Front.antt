-- Known bytes that grow by a text, or by some of it, from its front. This project's own.
use Rattle.std.specs.Prelude.{◌≡◌, ◌≢◌, ℕ, List, [], ◌++◌, Option, Result, Ok, Err}
use Rattle.std.specs.Io.KnownBytes.{Appends}

-- the bytes grow by a front of the text, and some of the text is missing
pub record AppendsFront (old new : Option (List ℕ)) (bytes : List ℕ) : Type 0 where
  pub front : List ℕ
  pub back : List ℕ
  pub part : bytes ≡ front ++ back
  pub missing : back ≢ []
  pub appends : Appends old new front

-- the text was printed, or after a fault only a front of it
abbrev pub Prints : {E : Type 0} → Option (List ℕ) → Option (List ℕ) → List ℕ
    → Result (Unit {0}) E → Type 0
Prints old new bytes (Ok done) = Appends old new bytes
Prints old new bytes (Err fault) = AppendsFront old new bytes
