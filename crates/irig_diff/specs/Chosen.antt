-- What a command line asks for, and which value it cannot have. This project's own.
use Rattle.std.specs.Prelude.{◌≡◌, ◌||◌, Bool, true, false, Option, Some, None, is_some}
use Rattle.irig_codes.specs.Format.{FormatView}
use Rattle.irig_words.specs.Formats.{HasFormatFault, IsFormat, given}
use Rattle.irig_words.specs.Windows.{HasWindowFault, IsWindow}
use Rattle.irig_diff.specs.declared.chosen.OptionFault.{OptionFault}
use Rattle.irig_diff.specs.declared.raw_values.RawValues.{RawValues}
use Rattle.irig_diff.specs.declared.chosen.Settings.{Settings}
use Rattle.irig_diff.specs.declared.chosen.OptionFault.TheVariants as fault

-- an option is given that says how frames are read
abbrev pub names_format : RawValues → Bool
names_format a = is_some a.part.format || is_some a.part.expression

-- frames are shown in this format; or none are, and no option says how they are read
abbrev pub AreFrames : RawValues → Option FormatView → Type 0
AreFrames a None = (a.frames ≡ false) × (names_format a ≡ false)
AreFrames a (Some f) =
    (a.frames ≡ true) × IsFormat (given a.part.format) (given a.part.expression) f

-- the values ask for this
pub record IsChosen (a : RawValues) (s : Settings) : Type 0 where
  pub before : s.before ≡ a.before
  pub wire : s.wire ≡ a.part.wire
  pub after : s.after ≡ a.after
  pub wire_after : s.wire_after ≡ a.wire_after
  pub window : IsWindow (given a.part.from) (given a.part.to) s.window
  pub frames : AreFrames a s.frames

-- this option has a value that it cannot have
abbrev pub HasFault : RawValues → OptionFault → Type 0
HasFault a (fault.Window of_window) = HasWindowFault (given a.part.from) (given a.part.to) of_window
HasFault a (fault.Format of_format) =
    (a.frames ≡ true) × HasFormatFault (given a.part.format) (given a.part.expression) of_format
HasFault a fault.Alone = (a.frames ≡ false) × (names_format a ≡ true)
