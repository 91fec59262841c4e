-- The values of a command line as they are written. This project's own.
use Rattle.std.specs.Prelude.{◌≡◌, ℕ, Bool, false, List, codes, Option, Some, None}
use Rattle.std.specs.Str.{bytes_eq}
use Rattle.clap.specs.Words.{first_value}
use Rattle.clap.specs.declared.parser.matches.Found.{Found}
use Rattle.irig_words.specs.Formats.{given}
use Rattle.irig_words.specs.declared.values.PartValues.{PartValues}

-- whether an option without a value is given: then `clap` has this value for it
abbrev pub is_on : Option (List ℕ) → Bool
is_on None = false
is_on (Some text) = bytes_eq text (codes "true")

-- the values are those of the matches
pub record AreOfPart (f : Found) (a : PartValues) : Type 0 where
  pub wire : first_value f (codes "wire") ≡ given a.wire
  pub from : first_value f (codes "from") ≡ given a.from
  pub to : first_value f (codes "to") ≡ given a.to
  pub format : first_value f (codes "format") ≡ given a.format
  pub expression : first_value f (codes "expression") ≡ given a.expression
