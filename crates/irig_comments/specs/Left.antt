-- What of the patch with comments is still to come. This project's own.
use Rattle.std.specs.Prelude.{◌==◌, ◌&&◌, ℕ, ◌++◌, Bool, List, [], ◌∷◌, Option, Some, None, nat_le}
use Rattle.std.specs.Prelude.{if◌then◌else◌, is_none}
use Rattle.irig_recording.specs.declared.pulse.Pulse.{Pulse}
use Rattle.irig_difference.specs.PatchText.{length_note}
use Rattle.irig_comments.specs.Counts.{counts_between, counts_text}
use Rattle.irig_comments.specs.{Framed.FramedView, Commented.is_other, Parts.joined, Parts.parts_of}
use Rattle.irig_comments.specs.{Sides.place, declared.counts.Counts.Counts}
use Rattle.irig_comments.specs.declared.sides.Sides.{Sides}

-- the next change, and those after it; with no next one there are none
abbrev pub with_change : Option Sides → List Sides → List Sides
with_change None ss = []
with_change (Some s) ss = s ∷ ss

-- the next stretch, and those after it; with no next one there are none
abbrev pub with_stretch : Option Pulse → List Pulse → List Pulse
with_stretch None ps = []
with_stretch (Some p) ps = p ∷ ps

-- the next change, if no stretch comes before it
abbrev pub first_change : Option Sides → Option Pulse → Option Sides
first_change None next = None
first_change (Some s) None = Some s
first_change (Some s) (Some p) = if nat_le (place s) p.fall then Some s else None

-- the last line, unless it was written
abbrev pub last_left : Option Counts → List ℕ
last_left None = []
last_left (Some counts) = counts_text counts

-- the numbers of the last line, if two recordings differ
abbrev pub last_counts : FramedView → FramedView → Option Counts
last_counts b a =
    if is_other b.recording a.recording then Some (counts_between b a) else None

-- the same, by their lengths and their first stretch
abbrev pub last_if : FramedView → FramedView → Option Pulse → Option Counts
last_if b a next = if (b.recording.micros == a.recording.micros) && is_none next then None
    else Some (counts_between b a)

-- the comments on changes, the lines of stretches and the last line
abbrev pub lines_text : List Sides → List Pulse → Option Counts → List ℕ
lines_text cs ps last = joined (parts_of cs ps) ++ last_left last

-- the note with the lengths, unless it was written, and the lines left
abbrev pub text_left : Bool → ℕ → ℕ → List ℕ → List ℕ
text_left is_noted b a left = (if is_noted then [] else length_note b a) ++ left
