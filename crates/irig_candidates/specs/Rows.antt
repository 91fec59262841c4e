-- What each element of a frame carries of the time, as `Code` keeps it: this project's own.
use Rattle.std.specs.Prelude.{ℕ, nat_lt, List, map, Option, Some, None, if◌then◌else◌, unwrap_or}
use Rattle.std.specs.Prelude.{replicate, set, Bool, true, false}
use Rattle.std.specs.List.{range_with_len}
use Rattle.irig_codes.specs.declared.fields.Fields.{Fields}
use Rattle.irig_codes.specs.declared.note.Name.TheVariants as names
use Rattle.irig_codes.specs.declared.width.Element.{Element}
use Rattle.irig_codes.specs.declared.width.Element.TheVariants.{Zero, One}
use Rattle.irig_codes.specs.{Format.FormatView, Layout.decimal, Layout.sbs, Reading.fields_read}
use Rattle.irig_codes.specs.{Layout.Field as CodeField}
use Rattle.irig_candidates.specs.declared.row.Field.{Field}
use Rattle.irig_candidates.specs.declared.row.Field.TheVariants.{Hundredths, Seconds, Minutes, Hours}
use Rattle.irig_candidates.specs.declared.row.Field.TheVariants.{Days, Sbs}
use Rattle.irig_candidates.specs.declared.row.Row.{Row}

-- a field of the time, as the table of irig_codes has it
abbrev pub field_of : Field → CodeField
field_of Hundredths = decimal names.Hundredths
field_of Seconds = decimal names.Seconds
field_of Minutes = decimal names.Minutes
field_of Hours = decimal names.Hours
field_of Days = decimal names.Days
field_of Sbs = sbs

-- whether two fields are the same
abbrev pub same : Field → Field → Bool
same Hundredths Hundredths = true
same Seconds Seconds = true
same Minutes Minutes = true
same Hours Hours = true
same Days Days = true
same Sbs Sbs = true
same _ _ = false

-- a frame in which one element alone is One
abbrev pub alone : ℕ → List Element
alone e = set (replicate 100 Zero) e One

-- the first of the numbers that is not 0, as the weight of an element in its field
abbrev pub first_row : ℕ → ℕ → ℕ → ℕ → ℕ → ℕ → Option Row
first_row c s m h d b =
    if nat_lt 0 c then row Hundredths c else if nat_lt 0 s then row Seconds s
    else if nat_lt 0 m then row Minutes m else if nat_lt 0 h then row Hours h
    else if nat_lt 0 d then row Days d else if nat_lt 0 b then row Sbs b else None where
      row : Field → ℕ → Option Row
      row x w = Some (record { field = x; weight = w })

-- the same of the fields of a frame
abbrev pub row_in : Fields → Option Row
row_in g =
    first_row (unwrap_or g.hundredths 0) g.seconds g.minutes g.hours g.days (unwrap_or g.sbs 0)

-- what an element carries; shut, as the table is large
unfoldable pub row_at : FormatView → ℕ → Option Row
row_at f e = row_in (fields_read f (alone e))

-- what each element carries; shut, so that it is computed only if a proof asks
unfoldable pub rows_of_code : FormatView → List (Option Row)
rows_of_code f = map (row_at f) (range_with_len 0 100)

-- the same of any number, None past the end of a frame
abbrev pub carried_at : FormatView → ℕ → Option Row
carried_at f e = if nat_lt e 100 then row_at f e else None
