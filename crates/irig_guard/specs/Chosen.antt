-- What a command line asks for, and which value it cannot have. This project's own.
use Rattle.std.specs.Prelude.{◌≡◌, ◌&&◌, ℕ, Bool, true, false, not, List, Option, Some, None}
use Rattle.std.specs.Prelude.{is_some}
use Rattle.std.specs.Str.{bytes_eq}
use denote.Ref.{Bor}
use Rattle.irig_words.specs.Formats.{HasFormatFault, IsFormat, given}
use Rattle.irig_words.specs.Windows.{HasWindowFault, IsWindow}
use Rattle.irig_guard.specs.declared.chosen.OptionFault.{OptionFault}
use Rattle.irig_guard.specs.declared.raw_values.RawValues.{RawValues}
use Rattle.irig_guard.specs.declared.chosen.Settings.{Settings}
use Rattle.irig_guard.specs.declared.chosen.OptionFault.TheVariants as fault

-- what is to be written is the track
abbrev pub is_track : Option (Bor (List ℕ)) → List ℕ → Bool
is_track None track = false
is_track (Some out) track = bytes_eq out.now track

abbrev pub is_out_track : RawValues → Bool
is_out_track a = is_track a.out a.track.now

-- the values ask for this
pub record IsChosen (a : RawValues) (s : Settings) : Type 0 where
  pub track : s.track ≡ a.track
  pub wire : s.wire ≡ a.wire
  pub window : IsWindow (given a.from) (given a.to) s.window
  pub out : s.out ≡ a.out
  pub others : s.others ≡ a.others
  pub save : s.save ≡ a.save
  pub moved : s.moved ≡ a.moved
  pub format : IsFormat (given a.format) (given a.expression) s.format
  pub apart : is_out_track a ≡ false
  pub saved : (a.save && not (is_some a.out)) ≡ false

-- this option has a value that it cannot have
abbrev pub HasFault : RawValues → OptionFault → Type 0
HasFault a (fault.Window of_window) = HasWindowFault (given a.from) (given a.to) of_window
HasFault a (fault.Format of_format) =
    HasFormatFault (given a.format) (given a.expression) of_format
HasFault a fault.Out = is_out_track a ≡ true
HasFault a fault.Save = (a.save ≡ true) × (a.out ≡ None)
