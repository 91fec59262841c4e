-- The line that the command `frames` prints of a record. This project's own.
use Rattle.std.specs.Prelude.{ℕ, List, [], ◌++◌, Option, Some, None, codes, decimal}
use Rattle.irig_codes.specs.declared.fields.Fields.{Fields}
use Rattle.irig_codes.specs.declared.note.Name.TheVariants.{Hundredths, Seconds, Minutes, Hours}
use Rattle.irig_codes.specs.declared.note.Name.TheVariants.{Days, Year}
use Rattle.irig_codes.specs.declared.note.Note.TheVariants.{Fine, Field, SbsDisagrees, Stray}
use Rattle.irig_codes.specs.{declared.note.Name.Name, declared.note.Note.Note}
use Rattle.irig_index.specs.declared.record.Cause.TheVariants.{Ended, Step, Class}
use Rattle.irig_index.specs.declared.record.Verdict.TheVariants.{Broken, Read}
use Rattle.irig_index.specs.{declared.record.Cause.Cause, declared.record.Verdict.Verdict}
use Rattle.irig_print.specs.Row.{padded, hexadecimal}

-- why a frame is broken, in a word
abbrev pub cause_word : Cause → List ℕ
cause_word Ended = codes "ended"
cause_word Step = codes "step"
cause_word Class = codes "class"

-- a field by its name
abbrev pub name_word : Name → List ℕ
name_word Hundredths = codes "hundredths"
name_word Seconds = codes "seconds"
name_word Minutes = codes "minutes"
name_word Hours = codes "hours"
name_word Days = codes "days"
name_word Year = codes "year"

-- what is noted of a frame that was read
abbrev pub note_text : Note → List ℕ
note_text Fine = codes " fine"
note_text (Field name) = codes " field " ++ name_word name
note_text SbsDisagrees = codes " sbs"
note_text (Stray element) = codes " stray " ++ decimal element

-- a part that a format or an expression may lack, with its text if it is there
abbrev pub part_text : (ℕ → List ℕ) → Option ℕ → List ℕ
part_text text None = []
part_text text (Some value) = text value

-- the hundredths of a second, if the format has them
abbrev pub hundredths_text : Option ℕ → List ℕ
hundredths_text = part_text (λ v. codes "." ++ padded 2 v)

-- hours, minutes and seconds
abbrev pub clock_text : Fields → List ℕ
clock_text f =
    padded 2 f.hours ++ codes ":" ++ padded 2 f.minutes ++ codes ":" ++ padded 2 f.seconds

-- the day and the time of day, as far as the format has it
abbrev pub time_text : Fields → List ℕ
time_text f = padded 3 f.days ++ codes " " ++ clock_text f ++ hundredths_text f.hundredths

-- the parts of some expressions
abbrev pub parts_text : Fields → List ℕ
parts_text f = part_text (λ v. codes " year " ++ padded 2 v) f.year
    ++ part_text (λ v. codes " sbs " ++ decimal v) f.sbs
    ++ part_text (λ v. codes " control " ++ hexadecimal v) f.control

-- a frame that is broken at an element, or the fields that were read and what is noted of them
abbrev pub verdict_text : Verdict → List ℕ
verdict_text (Broken element cause) =
    codes "broken " ++ decimal element ++ codes " " ++ cause_word cause
verdict_text (Read fields note) = time_text fields ++ parts_text fields ++ note_text note

-- the number of the record and of its marker's pulse, both from 1, the marker's rise in
-- microseconds, and the verdict
abbrev pub frame_line : ℕ → ℕ → ℕ → Verdict → List ℕ
frame_line number marker rise verdict =
    decimal number ++ codes " " ++ decimal marker ++ codes " " ++ decimal rise ++ codes " "
    ++ verdict_text verdict ++ codes "\n"
