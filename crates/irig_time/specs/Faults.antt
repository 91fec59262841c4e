-- Which value of a command line cannot be, and why. This project's own.
use Rattle.std.specs.Prelude.{◌≡◌, ℕ, true, false, Option, Some, None, codes, is_some}
use Rattle.irig_codes.specs.Format.{FormatView}
use Rattle.irig_stamps.specs.declared.settings.Settings.{Settings}
use Rattle.irig_time.specs.Chosen.{HasSettings, lacks_year}
use Rattle.irig_time.specs.Units.{places_named}
use Rattle.irig_time.specs.Values.{comma_named, form_named, offset_named}
use Rattle.irig_time.specs.Wants.{is_json_alone, is_not_of_holes, is_not_of_table}
use Rattle.irig_time.specs.Names.{is_name, is_of_bounds}
use Rattle.irig_time.specs.{Samples.IsComma, Samples.names_column, Values.whole_between}
use Rattle.irig_words.specs.Formats.{HasFormatFault, IsFormat, given, text_or}
use Rattle.irig_words.specs.Windows.{HasWindowFault}
use Rattle.irig_time.specs.declared.raw_values.RawValues.{RawValues}
use Rattle.irig_time.specs.declared.chosen.OptionFault.{OptionFault}
use Rattle.irig_time.specs.declared.chosen.OptionFault.TheVariants as fault

-- this option has a value that it cannot have
abbrev pub HasFault : RawValues → OptionFault → Type 0
HasFault a (fault.Window of_window) = HasWindowFault (given a.part.from) (given a.part.to) of_window
HasFault a (fault.Format of_format) =
    HasFormatFault (given a.part.format) (given a.part.expression) of_format
HasFault a fault.Unit = places_named (text_or a.unit (codes "us")) ≡ None
HasFault a fault.Offset = (n : ℕ) × (places_named (text_or a.unit (codes "us")) ≡ Some n)
    × (offset_named n (text_or a.offset (codes "0")) ≡ None)
HasFault a fault.Column = (names_column a ≡ false)
    × (whole_between 1 65536 (text_or a.column (codes "1")) ≡ None)
HasFault a fault.Headless = (names_column a ≡ true)
    × (whole_between 0 4294967296 (text_or a.header (codes "0")) ≡ Some 0)
HasFault a fault.Comma = comma_named (text_or a.comma (codes "")) ≡ None
HasFault a fault.Header = whole_between 0 4294967296 (text_or a.header (codes "0")) ≡ None
HasFault a fault.Name = (comma : Option ℕ) × IsComma a comma
    × (is_name comma (text_or a.name (codes "time")) ≡ false)
HasFault a fault.OfBounds = is_of_bounds a.bound (text_or a.name (codes "time")) ≡ true
HasFault a fault.Unnamed = (is_some a.name ≡ true)
    × (whole_between 0 4294967296 (text_or a.header (codes "0")) ≡ Some 0)
HasFault a fault.Year = whole_between 1000 9998 (text_or a.year (codes "")) ≡ None
HasFault a fault.Within = whole_between 0 4294967296 (text_or a.within (codes "")) ≡ None
HasFault a fault.Form = form_named (text_or a.form (codes "ordinal")) ≡ None
HasFault a fault.NoYear =
    (f : FormatView) × (s : Settings) × IsFormat (given a.part.format) (given a.part.expression) f
    × HasSettings a s × (lacks_year f s ≡ true)
HasFault a fault.Table = is_not_of_table a ≡ true
HasFault a fault.Holes = is_not_of_holes a ≡ true
HasFault a fault.Json = is_json_alone a ≡ true
