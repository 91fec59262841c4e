-- What a file holds. This project's own.
use Rattle.std.specs.Prelude.{ℕ, List}

-- what a file holds: its bytes, and its mode (who may read and write it)
pub record Held : Type 0 where
  pub bytes : List ℕ
  pub mode : ℕ
