-- What a block of output holds back. This project's own.
use Rattle.std.specs.Prelude.{◌≡◌, ℕ, List, ◌++◌, Option}
use Rattle.std.specs.Io.KnownBytes.{Appends}

-- a text comes after one that was held back: some of both is sent, and the rest is held back
abbrev pub Sends : Option (List ℕ) → Option (List ℕ) → List ℕ → List ℕ → List ℕ → Type 0
Sends old new before after text =
    (sent : List ℕ) × Appends old new sent × (before ++ text ≡ sent ++ after)
