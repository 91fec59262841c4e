-- How the lines of the samples are read, and how a time is written. This project's own.
use Rattle.std.specs.Prelude.{◌≡◌, ◌==◌, ◌&&◌, ◌+◌, ◌/◌, ℕ, Bool, true, false, not, List, length}
use Rattle.std.specs.Prelude.{Option, Some, None, codes, is_some, is_none}
use denote.Ref.{Bor}
use Rattle.irig_stamps.specs.Numbers.{whole_in}
use Rattle.irig_stamps.specs.{declared.picos.Picos.Picos, declared.settings.Form.Form}
use Rattle.irig_time.specs.Units.{places_named}
use Rattle.irig_time.specs.Values.{comma_named, form_named, offset_named}
use Rattle.irig_time.specs.{Names.is_name, Names.is_of_bounds, Values.whole_between}
use Rattle.irig_time.specs.declared.raw_values.RawValues.{RawValues}
use Rattle.irig_time.specs.declared.samples.Column.{Column}
use Rattle.irig_words.specs.Formats.{text_or}

-- white space parts columns, if no byte is given
abbrev pub IsComma : RawValues → Option ℕ → Type 0
IsComma a None = a.comma ≡ None
IsComma a (Some b) = comma_named (text_or a.comma (codes "")) ≡ Some b

-- a text is the name of a column: some bytes, and no number
abbrev pub is_column_name : List ℕ → Bool
is_column_name text = not (length text == 0) && is_none (whole_in text)

-- whether the column is given by its name
abbrev pub names_column : RawValues → Bool
names_column a = is_column_name (text_or a.column (codes "1"))

-- the column by its number, counted from 1 there and from 0 here; or its name, if it is no number
abbrev pub IsNamed : RawValues → ℕ → Option (Bor (List ℕ)) → Type 0
IsNamed a number None = (names_column a ≡ false)
    × (whole_between 1 65536 (text_or a.column (codes "1")) ≡ Some (number + 1))
IsNamed a number (Some name) = (names_column a ≡ true)
    × ((name.now ≡ text_or a.column (codes "1")) × (number ≡ 0))

abbrev pub IsColumn : RawValues → Column → Type 0
IsColumn a c = IsNamed a c.number c.named

-- where the recorder's time is in a line: in microseconds in the first column, if nothing is given
pub record HasColumns (a : RawValues) (places : ℕ) (offset : Picos) (column : Column)
    (comma : Option ℕ) : Type 0 where
  pub unit : places_named (text_or a.unit (codes "us")) ≡ Some places
  pub offset_is : offset_named places (text_or a.offset (codes "0")) ≡ Some offset
  pub column_is : IsColumn a column
  pub comma_is : IsComma a comma

-- the year and its century: 20, if no year is given
abbrev pub HasYear : RawValues → ℕ → Option ℕ → Type 0
HasYear a century None = (a.year ≡ None) × (century ≡ 20)
HasYear a century (Some y) =
    (whole_between 1000 9998 (text_or a.year (codes "")) ≡ Some y) × (century ≡ y / 100)

-- how a time is written
pub record HasDates (a : RawValues) (century : ℕ) (year : Option ℕ) (form : Form) : Type 0 where
  pub form_is : form_named (text_or a.form (codes "ordinal")) ≡ Some form
  pub year_is : HasYear a century year

-- the name of the column of times: time, if none is given, and not that of the bounds; one that is
-- given needs a header
pub record HasName (a : RawValues) (comma : Option ℕ) (header : ℕ) (name : List ℕ) : Type 0 where
  pub name_is : name ≡ text_or a.name (codes "time")
  pub sound : is_name comma name ≡ true
  pub distinct : is_of_bounds a.bound name ≡ false
  pub needed : (is_some a.name && (header == 0)) ≡ false

-- by how many microseconds a time can be off that is printed, if that is given
abbrev pub HasWithin : RawValues → Option ℕ → Type 0
HasWithin a None = a.within ≡ None
HasWithin a (Some n) = whole_between 0 4294967296 (text_or a.within (codes "")) ≡ Some n
