-- The command line: six options and the track. This project's own.
use Rattle.std.specs.Prelude.{◌≡◌, List, [], ◌∷◌, map, codes, Some, None}
use Rattle.clap.specs.Words.{App, Rule, Text, HasMatchesOf}
use Rattle.clap.specs.declared.builder.value_parser.ValueParser.{ValueParser}
use Rattle.clap.specs.declared.builder.value_parser.ValueParser.TheVariants.{Names}
use Rattle.clap.specs.declared.parser.matches.ArgMatches.{ArgMatches}
use Rattle.irig_codes.specs.Words.{kind_word, kinds}
use Rattle.irig_words.specs.Arguments.{command_with, needed, option}

-- the parser takes just these texts
abbrev pub TakesJust : List Text → ValueParser → Type 0
TakesJust texts (Names names) = map (λ n. n.now) names.now ≡ texts
TakesJust texts _ = ⊥

-- the kinds of time code
abbrev pub letters : List Text
letters = map kind_word kinds

-- the numbers of expressions
abbrev pub digits : List Text
digits =
    codes "0" ∷ codes "1" ∷ codes "2" ∷ codes "3" ∷ codes "4" ∷ codes "5" ∷ codes "6"
    ∷ codes "7" ∷ []

-- an option with one of these values
abbrev pub IsChoice : Text → List Text → Rule → Type 0
IsChoice name values rule =
    (parser : ValueParser) × TakesJust values parser × (rule ≡ option name (Some parser))

-- which part of which wire is read, and how; the path to write, and the track
abbrev pub rules_with : Rule → Rule → List Rule
rules_with format expression =
    option (codes "wire") None ∷ option (codes "from") None ∷ option (codes "to") None
    ∷ format ∷ expression ∷ option (codes "out") None ∷ needed (codes "TRACK") ∷ []

-- it is the command line of the program, with the choices of a letter and of a digit
pub record IsCommand (app : App) : Type 0 where
  pub format : Rule
  pub expression : Rule
  pub is_letter : IsChoice (codes "format") letters format
  pub is_digit : IsChoice (codes "expression") digits expression
  pub shape : app ≡ command_with (codes "irig_ed") (rules_with format expression)

-- matches that a parse of the words by the command may give
pub record IsParsed (words : List Text) (matches : ArgMatches) : Type 0 where
  pub app : App
  pub is_command : IsCommand app
  pub promised : HasMatchesOf app words matches
