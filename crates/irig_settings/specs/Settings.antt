-- What a command line asks for. This project's own.
use Rattle.std.specs.Prelude.{◌≡◌, List, codes, Option, Some, None, Result, Ok, Err, is_some}
use Rattle.std.specs.Prelude.{option_map, true, unwrap_or}
use Rattle.clap.specs.Words.{Text, first_value, found_of}
use Rattle.clap.specs.declared.parser.matches.Found.{Found}
use Rattle.clap.specs.declared.parser.matches.ArgMatches.{ArgMatches}
use Rattle.irig_settings.specs.declared.chosen.Settings.{Settings}
use Rattle.irig_settings.specs.declared.chosen.OptionFault.{OptionFault}
use Rattle.irig_settings.specs.declared.chosen.OptionFault.TheVariants as fault
use Rattle.irig_settings.specs.{Errors.MayRefuse, Options.IsParsed}
use Rattle.irig_vcd.specs.declared.window.Window.{Window}
use Rattle.irig_words.specs.{Errors.WantsMemory, Formats.HasFormatFault, Formats.IsFormat}
use Rattle.irig_words.specs.Windows.{HasWindowFault, IsWindow, is_given}
use Rattle.irig_words.specs.declared.formats.FormatFault.{FormatFault}
use Rattle.irig_words.specs.declared.usage.UsageFault.{UsageFault}
use Rattle.irig_words.specs.declared.usage.UsageFault.TheVariants.{Value, Words}

-- the window is that of two times of the matches; if there is one, they have a path to write
pub record IsPart (f : Found) (window : Option Window) : Type 0 where
  pub between : IsWindow (first_value f (codes "from")) (first_value f (codes "to")) window
  pub apart : is_some window ≡ true → is_some (first_value f (codes "out")) ≡ true

-- the settings are the values of the matches; what is written is the track, if no path is given
pub record AreValues (f : Found) (s : Settings) : Type 0 where
  pub track : first_value f (codes "TRACK") ≡ Some s.track.now
  pub wire : first_value f (codes "wire") ≡ option_map (λ w. w.now) s.wire
  pub window : IsPart f s.window
  pub out : s.out.now ≡ unwrap_or (first_value f (codes "out")) s.track.now
  pub format :
      IsFormat (first_value f (codes "format")) (first_value f (codes "expression")) s.format

-- this option of the matches has a value that it cannot have
abbrev pub HasFault : Found → OptionFault → Type 0
HasFault f (fault.Window of_window) =
    HasWindowFault (first_value f (codes "from")) (first_value f (codes "to")) of_window
HasFault f fault.Out =
    (is_given (first_value f (codes "from")) (first_value f (codes "to")) ≡ true)
    × (first_value f (codes "out") ≡ None)
HasFault f fault.BadExpression = (why : FormatFault)
    × HasFormatFault (first_value f (codes "format")) (first_value f (codes "expression")) why

-- the answer is that of the matches; an error is that memory ran out
abbrev pub Chooses : Found → Result Settings (UsageFault OptionFault) → Type 0
Chooses f (Ok s) = AreValues f s
Chooses f (Err (Value why)) = HasFault f why
Chooses f (Err (Words error)) = WantsMemory error

-- there are matches that a parse of the words may give, and the answer is theirs; or the error is
-- one that the parse may give
abbrev pub Reads : List Text → Result Settings (UsageFault OptionFault) → Type 0
Reads words (Err (Words error)) = MayRefuse words error
Reads words result =
    (matches : ArgMatches) × IsParsed words matches × Chooses (found_of matches) result
