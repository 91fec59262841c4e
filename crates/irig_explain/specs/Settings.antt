-- What the words of a command line ask for. This project's own.
use Rattle.std.specs.Prelude.{◌≡◌, List, codes, Some, Result}
use Rattle.clap.specs.Words.{Text, first_value}
use Rattle.clap.specs.declared.parser.matches.Found.{Found}
use Rattle.irig_words.specs.Values.{AreOfPart, is_on}
use Rattle.irig_words.specs.Usage as usage
use Rattle.irig_words.specs.declared.usage.UsageFault.{UsageFault}
use Rattle.irig_explain.specs.{Chosen.HasFault, Chosen.IsChosen, Options.the_command}
use Rattle.irig_explain.specs.declared.chosen.Chosen.{Chosen}
use Rattle.irig_explain.specs.declared.chosen.OptionFault.{OptionFault}
use Rattle.irig_explain.specs.declared.raw_values.RawValues.{RawValues}

-- the values are those of the matches
pub record AreValues (f : Found) (a : RawValues) : Type 0 where
  pub track : first_value f (codes "TRACK") ≡ Some a.track.now
  pub part : AreOfPart f a.part
  pub sure : a.sure ≡ is_on (first_value f (codes "sure"))
  pub json : a.json ≡ is_on (first_value f (codes "json"))

-- what the words ask for, or why they ask for nothing
abbrev pub Reads : List Text → Result Chosen (UsageFault OptionFault) → Type 0
Reads words result = usage.Reads the_command AreValues IsChosen HasFault words result
