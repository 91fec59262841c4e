-- When the same is reported of two frames. This project's own.
use Rattle.std.specs.Prelude.{ℕ, ◌==◌, ◌&&◌, Bool, true, false, Option, Some, None}
use Rattle.irig_codes.specs.declared.fields.Fields.{Fields}
use Rattle.irig_codes.specs.declared.note.Name.TheVariants.{Hundredths, Seconds, Minutes, Hours}
use Rattle.irig_codes.specs.declared.note.Name.TheVariants.{Days, Year}
use Rattle.irig_codes.specs.declared.note.Note.TheVariants.{Fine, Field, SbsDisagrees, Stray}
use Rattle.irig_codes.specs.{declared.note.Name.Name, declared.note.Note.Note}
use Rattle.irig_index.specs.declared.record.Cause.TheVariants.{Ended, Step, Class}
use Rattle.irig_index.specs.declared.record.Verdict.TheVariants.{Broken, Read}
use Rattle.irig_index.specs.{declared.record.Cause.Cause, declared.record.Verdict.Verdict}

-- both have a part and it is the same, or neither has it
abbrev pub same_part : Option ℕ → Option ℕ → Bool
same_part None None = true
same_part None (Some b) = false
same_part (Some a) None = false
same_part (Some a) (Some b) = a == b

-- all fields are the same
abbrev pub same_fields : Fields → Fields → Bool
same_fields a b =
    same_part a.hundredths b.hundredths && (a.seconds == b.seconds) && (a.minutes == b.minutes)
    && (a.hours == b.hours) && (a.days == b.days) && same_part a.year b.year
    && same_part a.sbs b.sbs && same_part a.control b.control

-- the causes, numbered
abbrev pub cause_number : Cause → ℕ
cause_number Ended = 0
cause_number Step = 1
cause_number Class = 2

-- the fields, numbered
abbrev pub name_number : Name → ℕ
name_number Hundredths = 0
name_number Seconds = 1
name_number Minutes = 2
name_number Hours = 3
name_number Days = 4
name_number Year = 5

-- the same is noted
abbrev pub same_note : Note → Note → Bool
same_note Fine Fine = true
same_note (Field a) (Field b) = name_number a == name_number b
same_note SbsDisagrees SbsDisagrees = true
same_note (Stray a) (Stray b) = a == b
same_note _ _ = false

-- both are broken at the same element for the same cause, or both read the same
abbrev pub same_verdict : Verdict → Verdict → Bool
same_verdict (Broken a c) (Broken b d) = (a == b) && (cause_number c == cause_number d)
same_verdict (Broken a c) (Read g n) = false
same_verdict (Read f m) (Broken b d) = false
same_verdict (Read f m) (Read g n) = same_fields f g && same_note m n
