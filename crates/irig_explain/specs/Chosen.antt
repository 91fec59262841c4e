-- What a command line asks for, and which value it cannot have. This project's own.
use Rattle.std.specs.Prelude.{◌≡◌}
use Rattle.irig_words.specs.Formats.{HasFormatFault, IsFormat, given}
use Rattle.irig_words.specs.Windows.{HasWindowFault, IsWindow}
use Rattle.irig_explain.specs.declared.chosen.Chosen.{Chosen}
use Rattle.irig_explain.specs.declared.chosen.OptionFault.{OptionFault}
use Rattle.irig_explain.specs.declared.chosen.OptionFault.TheVariants as fault
use Rattle.irig_explain.specs.declared.raw_values.RawValues.{RawValues}

-- the values ask for this
pub record IsChosen (a : RawValues) (c : Chosen) : Type 0 where
  pub track : c.track ≡ a.track
  pub wire : c.wire ≡ a.part.wire
  pub window : IsWindow (given a.part.from) (given a.part.to) c.window
  pub format : IsFormat (given a.part.format) (given a.part.expression) c.format
  pub sure : c.sure ≡ a.sure
  pub json : c.json ≡ a.json

-- this option has a value that it cannot have
abbrev pub HasFault : RawValues → OptionFault → Type 0
HasFault a (fault.Window of_window) = HasWindowFault (given a.part.from) (given a.part.to) of_window
HasFault a (fault.Format of_format) =
    HasFormatFault (given a.part.format) (given a.part.expression) of_format
