-- What the words of a command line ask for. This project's own.
use Rattle.std.specs.Prelude.{◌≡◌, List, codes, Some, Result}
use Rattle.clap.specs.Words.{Text, first_value}
use Rattle.clap.specs.declared.parser.matches.Found.{Found}
use Rattle.irig_words.specs.{Formats.given, Values.AreOfPart, Values.is_on}
use Rattle.irig_words.specs.Usage as usage
use Rattle.irig_words.specs.declared.usage.UsageFault.{UsageFault}
use Rattle.irig_diff.specs.declared.chosen.OptionFault.{OptionFault}
use Rattle.irig_diff.specs.{Chosen.HasFault, Chosen.IsChosen, Options.the_command}
use Rattle.irig_diff.specs.declared.raw_values.RawValues.{RawValues}
use Rattle.irig_diff.specs.declared.chosen.Settings.{Settings}

-- the values are those of the matches
pub record AreValues (f : Found) (a : RawValues) : Type 0 where
  pub before : first_value f (codes "BEFORE") ≡ Some a.before.now
  pub after : first_value f (codes "AFTER") ≡ Some a.after.now
  pub part : AreOfPart f a.part
  pub wire_after : first_value f (codes "wire-after") ≡ given a.wire_after
  pub frames : a.frames ≡ is_on (first_value f (codes "frames"))

-- what the words ask for, or why they ask for nothing
abbrev pub Reads : List Text → Result Settings (UsageFault OptionFault) → Type 0
Reads words result = usage.Reads the_command AreValues IsChosen HasFault words result
