-- What the words of a command line ask for, by the command and the meaning of its options. This
-- project's own.
use Rattle.std.specs.Prelude.{List, Result, Ok, Err}
use Rattle.clap.specs.Words.{App, HasMatchesOf, Text, found_of}
use Rattle.clap.specs.declared.parser.matches.Found.{Found}
use Rattle.clap.specs.declared.parser.matches.ArgMatches.{ArgMatches}
use Rattle.irig_words.specs.Errors.{MayRefuse}
use Rattle.irig_words.specs.declared.usage.UsageFault.{UsageFault}
use Rattle.irig_words.specs.declared.usage.UsageFault.TheVariants.{Words, Value}

-- there are matches that a parse of the words by the command may give, and these are their values
pub record Values {A : Type 0} (app : App) (AreValues : Found → A → Type 0) (words : List Text)
    (asked : A) : Type 0 where
  pub matches : ArgMatches
  pub parsed : HasMatchesOf app words matches
  pub values : AreValues (found_of matches) asked

-- what the words ask for; or the error is one that the parse may give, or an option has a value
-- that it cannot have
abbrev pub Reads : {A C F : Type 0} → App → (Found → A → Type 0) → (A → C → Type 0)
    → (A → F → Type 0) → List Text → Result C (UsageFault F) → Type 0
Reads {A} app AreValues IsChosen HasFault words (Ok chosen) =
    (asked : A) × Values app AreValues words asked × IsChosen asked chosen
Reads app AreValues IsChosen HasFault words (Err (Words error)) = MayRefuse app words error
Reads {A} app AreValues IsChosen HasFault words (Err (Value fault)) =
    (asked : A) × Values app AreValues words asked × HasFault asked fault
