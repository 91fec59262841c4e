-- What the words of a command line ask for. This project's own.
use Rattle.std.specs.Prelude.{◌≡◌, List, codes, Some, Result}
use Rattle.clap.specs.Words.{Text, first_value}
use Rattle.clap.specs.declared.parser.matches.Found.{Found}
use Rattle.irig_words.specs.{Formats.given, Values.AreOfPart, Values.is_on}
use Rattle.irig_words.specs.Usage as usage
use Rattle.irig_words.specs.declared.usage.UsageFault.{UsageFault}
use Rattle.irig_time.specs.declared.chosen.OptionFault.{OptionFault}
use Rattle.irig_time.specs.{Faults.HasFault, Chosen.IsChosen, Options.the_command}
use Rattle.irig_time.specs.{declared.raw_values.RawValues.RawValues, declared.chosen.Chosen.Chosen}

-- the values are those of the matches
pub record AreValues (f : Found) (a : RawValues) : Type 0 where
  pub track : first_value f (codes "TRACK") ≡ Some a.track.now
  pub part : AreOfPart f a.part
  pub unit : first_value f (codes "unit") ≡ given a.unit
  pub offset : first_value f (codes "offset") ≡ given a.offset
  pub column : first_value f (codes "column") ≡ given a.column
  pub comma : first_value f (codes "comma") ≡ given a.comma
  pub header : first_value f (codes "header") ≡ given a.header
  pub name : first_value f (codes "name") ≡ given a.name
  pub year : first_value f (codes "year") ≡ given a.year
  pub form : first_value f (codes "form") ≡ given a.form
  pub out : first_value f (codes "out") ≡ given a.out
  pub alone : a.alone ≡ is_on (first_value f (codes "alone"))
  pub why : a.why ≡ is_on (first_value f (codes "why"))
  pub bound : a.bound ≡ is_on (first_value f (codes "bound"))
  pub within : first_value f (codes "within") ≡ given a.within
  pub table : a.table ≡ is_on (first_value f (codes "table"))
  pub holes : a.holes ≡ is_on (first_value f (codes "holes"))
  pub json : a.json ≡ is_on (first_value f (codes "json"))
  pub quiet : a.quiet ≡ is_on (first_value f (codes "quiet"))

-- what the words ask for, or why they ask for nothing
abbrev pub Reads : List Text → Result Chosen (UsageFault OptionFault) → Type 0
Reads words result = usage.Reads the_command AreValues IsChosen HasFault words result
