-- What a command line asks for. This project's own.
use Rattle.std.specs.Prelude.{◌≡◌, ◌&&◌, ◌<◌, Bool, true, false, nat_lt, not, Some, IfSome, codes}
use Rattle.std.specs.Prelude.{is_some}
use Rattle.irig_codes.specs.Format.{FormatView}
use Rattle.irig_stamps.specs.declared.settings.Form.TheVariants.{Ordinal, Calendar, Seconds}
use Rattle.irig_stamps.specs.{declared.picos.Picos.Picos, declared.settings.Form.Form}
use Rattle.irig_stamps.specs.{Ready.IsWithin, declared.settings.Settings.Settings}
use Rattle.irig_time.specs.Samples.{HasColumns, HasDates, HasName, HasWithin}
use Rattle.irig_time.specs.Values.{whole_between}
use Rattle.irig_time.specs.Wants.{is_json_alone, is_not_of_holes, is_not_of_table, task_of}
use Rattle.irig_words.specs.Formats.{IsFormat, given, text_or}
use Rattle.irig_words.specs.Windows.{IsWindow}
use Rattle.irig_time.specs.declared.samples.Column.{Column}
use Rattle.irig_time.specs.{declared.raw_values.RawValues.RawValues, declared.chosen.Chosen.Chosen}

-- the recorder's time at the start of the track
abbrev pub start_of : Settings → Picos
start_of s = record { negative = s.early; size = s.offset }

-- the column of the recorder's time
abbrev pub column_of : Settings → Column
column_of s = record { number = s.column; named = s.named }

-- how lines are read and stamped; a column with a name needs a header
pub record HasSettings (a : RawValues) (s : Settings) : Type 0 where
  pub columns : HasColumns a s.places (start_of s) (column_of s) s.comma
  pub header : whole_between 0 4294967296 (text_or a.header (codes "0")) ≡ Some s.header
  pub headed : IfSome s.named (λ n. 0 < s.header)
  pub name : HasName a s.comma s.header s.name.now
  pub dates : HasDates a s.century s.year s.form
  pub alone : s.alone ≡ a.alone
  pub why : s.why ≡ a.why
  pub bound : s.bound ≡ a.bound
  pub within : HasWithin a s.within

-- they are within their limits
abbrev pub IsSound : Settings → Type 0
IsSound s = IsWithin s × IfSome s.named (λ n. 0 < s.header)

-- a date is asked for that nothing gives a year: the expressions 0 to 3 have none
abbrev pub is_calendar : Form → Bool
is_calendar Ordinal = false
is_calendar Calendar = true
is_calendar Seconds = false

abbrev pub lacks_year : FormatView → Settings → Bool
lacks_year f s = is_calendar s.form && (not (is_some s.year) && nat_lt f.expression 4)

-- the values ask for this
pub record IsChosen (a : RawValues) (c : Chosen) : Type 0 where
  pub track : c.track ≡ a.track
  pub wire : c.wire ≡ a.part.wire
  pub window : IsWindow (given a.part.from) (given a.part.to) c.window
  pub format : IsFormat (given a.part.format) (given a.part.expression) c.format
  pub out : c.out ≡ a.out
  pub settings : HasSettings a c.settings
  pub year : lacks_year c.format c.settings ≡ false
  pub task : c.task ≡ task_of a
  pub quiet : c.quiet ≡ a.quiet
  pub alone : is_not_of_table a ≡ false
  pub holes : is_not_of_holes a ≡ false
  pub json : is_json_alone a ≡ false
