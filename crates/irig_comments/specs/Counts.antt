-- How many frames are fine, and how many came, went and changed. This project's own.
use Rattle.std.specs.Prelude.{ℕ, ◌++◌, Bool, true, false, List, codes, count_by, decimal, Option, Some}
use Rattle.std.specs.Prelude.{◌==◌, ◌&&◌, if◌then◌else◌, None}
use Rattle.irig_codes.specs.declared.note.Note.{Note}
use Rattle.irig_codes.specs.declared.note.Note.TheVariants.{Fine}
use Rattle.irig_index.specs.declared.record.Verdict.TheVariants.{Broken, Read}
use Rattle.irig_index.specs.declared.record.Verdict.{Verdict}
use Rattle.irig_comments.specs.{Framed.FramedView, Framed.shown_frames, Sides.changes}
use Rattle.irig_comments.specs.{declared.counts.Counts.Counts, declared.shown.Shown.Shown}

-- nothing is noted but that it is fine
abbrev pub is_fine_note : Note → Bool
is_fine_note Fine = true
is_fine_note _ = false

-- a frame that is read, and fine
abbrev pub is_fine : Verdict → Bool
is_fine (Broken element cause) = false
is_fine (Read fields note) = is_fine_note note

-- how many frames of a recording are fine
abbrev pub fine_frames : FramedView → ℕ
fine_frames x = count_by (λ s. is_fine s.verdict) (shown_frames x)

-- there is a frame
abbrev pub has_frame : Option Shown → Bool
has_frame None = false
has_frame (Some s) = true

-- a frame is on the first side alone
abbrev pub is_alone : Option Shown → Option Shown → Bool
is_alone (Some s) None = true
is_alone _ _ = false

-- a frame is on both
abbrev pub is_both : Option Shown → Option Shown → Bool
is_both (Some s) (Some z) = true
is_both _ _ = false

-- the five numbers of two recordings: fine frames before and after; frames that only the recording
-- after has, and only the one before; those that both have at one place, with another report
abbrev pub counts_between : FramedView → FramedView → Counts
counts_between b a = record {
  fine_before = fine_frames b;
  fine_after = fine_frames a;
  made = count_by (λ s. is_alone s.after s.before) (changes b a);
  lost = count_by (λ s. is_alone s.before s.after) (changes b a);
  changed = count_by (λ s. is_both s.before s.after) (changes b a);
}

-- the end of the line: if no frame is fine, before or after, it says what to do next
abbrev pub end_text : Counts → List ℕ
end_text n = if (n.fine_before == 0) && (n.fine_after == 0)
    then codes " changed; format or expression can be wrong, irig_what FILE says more\n"
    else codes " changed\n"

-- the line with the five numbers
abbrev pub counts_text : Counts → List ℕ
counts_text n =
    codes "# frames: " ++ decimal n.fine_before ++ codes " fine before, "
    ++ decimal n.fine_after ++ codes " fine after, " ++ decimal n.made ++ codes " made, "
    ++ decimal n.lost ++ codes " lost, " ++ decimal n.changed ++ end_text n
