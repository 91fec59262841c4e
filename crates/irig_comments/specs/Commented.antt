-- The patch between two recordings, with comments. This project's own.
use Rattle.std.specs.Prelude.{◌==◌, ◌||◌, ◌++◌, ℕ, Bool, true, false, not, List, [], ◌∷◌}
use Rattle.std.specs.Prelude.{if◌then◌else◌}
use Rattle.irig_recording.specs.declared.pulse.Pulse.{Pulse}
use Rattle.irig_difference.specs.PatchText.{length_note}
use Rattle.irig_difference.specs.Stretches.{stretches_between}
use Rattle.irig_recording.specs.Recording.{RecordingView}
use Rattle.irig_comments.specs.{Counts.counts_between}
use Rattle.irig_comments.specs.{Counts.counts_text, Framed.FramedView, Sides.changes}
use Rattle.irig_comments.specs.Parts.{Part, comment_part, line_part, parts_of, joined}

-- there is a stretch
abbrev pub has_some : List Pulse → Bool
has_some [] = false
has_some (p ∷ ps) = true

-- two recordings differ, in their lengths or in a stretch
abbrev pub is_other : RecordingView → RecordingView → Bool
is_other b a = not (b.micros == a.micros) || has_some (stretches_between b a)

-- the last line, if the recordings differ
abbrev pub last_text : FramedView → FramedView → List ℕ
last_text b a =
    if is_other b.recording a.recording then counts_text (counts_between b a) else []

-- the patch: the comment with two lengths, if they differ, the stretches with the frames that
-- differ, and the numbers
abbrev pub commented_parts : FramedView → FramedView → List Part
commented_parts b a =
    line_part (length_note b.recording.micros a.recording.micros)
    ∷ parts_of (changes b a) (stretches_between b.recording a.recording)
    ++ comment_part (last_text b a) ∷ []

-- the text of the patch with comments
abbrev pub commented_text : FramedView → FramedView → List ℕ
commented_text b a = joined (commented_parts b a)
