-- The patch between two recordings, as lines of the editor's language. This project's own.
use Rattle.std.specs.Prelude.{ℕ, ◌==◌, ◌++◌, Bool, List, [], ◌∷◌, codes, decimal, if◌then◌else◌}
use Rattle.irig_recording.specs.{declared.pulse.Pulse.Pulse, Recording.RecordingView}
use Rattle.irig_difference.specs.Stretches.{stretches_between}

-- a word and two numbers on a line
abbrev pub line_of : List ℕ → ℕ → ℕ → List ℕ
line_of word a b = word ++ 32 ∷ decimal a ++ 32 ∷ decimal b ++ 10 ∷ []

-- the lines that invert the level in each of some stretches, in order
abbrev pub script_of : List Pulse → List ℕ
script_of [] = []
script_of (p ∷ ps) = line_of (codes "invert") p.rise p.fall ++ script_of ps

-- the comment with two lengths, unless they are the same: no line changes a length
abbrev pub length_note : ℕ → ℕ → List ℕ
length_note before after = if before == after then [] else line_of (codes "# length") before after

-- the whole patch
abbrev pub patch_text : RecordingView → RecordingView → List ℕ
patch_text before after =
    length_note before.micros after.micros ++ script_of (stretches_between before after)

-- what of a patch is still to come: the comment, unless it was written, and the stretches left
abbrev pub patch_left : Bool → ℕ → ℕ → List Pulse → List ℕ
patch_left is_noted before after left =
    (if is_noted then [] else length_note before after) ++ script_of left
