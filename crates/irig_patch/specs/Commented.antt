-- What the text of a patch with comments does as a script: what that without them does. This
-- project's own.
use Rattle.std.specs.Prelude.{◌≡◌, ◌++◌, List, [], ◌∷◌, ℕ, codes}
use Rattle.std.specs.List.{AllByRecursion}
use Rattle.irig_codes.specs.Format.{FormatView}
use Rattle.irig_recording.specs.FileText.{file_text}
use Rattle.irig_recording.specs.Recording.{RecordingView}
use Rattle.irig_difference.specs.Stretches.{stretches_between}
use Rattle.irig_comments.specs.{Framed.framed, Commented.commented_text}
use Rattle.irig_edit.specs.State.State.{recording_of}
use Rattle.irig_patch.specs.Joined.{JoinedRun, WritesMade}
use Rattle.irig_patch.specs.Patched.{Patches, made_of}
use Rattle.irig_patch.specs.Scripts.{AreGranted, MayStop, RunOf}

-- the patch with comments on the frames of a format
abbrev pub commented : FormatView → RecordingView → RecordingView → List ℕ
commented f before after = commented_text (framed f before) (framed f after)

-- the same, and then a line that writes the track
abbrev pub commented_and_write : FormatView → RecordingView → RecordingView → List ℕ
commented_and_write f before after = commented f before after ++ codes "write\n"

-- if no line is refused, it leaves a session of the edges of the second recording, and each stretch
-- was a step
abbrev pub CommentsMake : Type 0
CommentsMake = (f : FormatView) (run : RunOf (commented f)) → AreGranted run.answers
    → (recording_of run.new.state ≡ made_of run.before run.after)
    × Patches (stretches_between run.before run.after) run.old run.new

-- no line of it is refused but for too many pulses or memory, and nothing is written
abbrev pub CommentsStop : Type 0
CommentsStop = (f : FormatView) (run : RunOf (commented f))
    → AllByRecursion (λ a. MayStop a.reply) run.answers × (run.texts ≡ [])

-- if no line is refused and the write does not fail, what is written is the dump of the edges of
-- the second recording
abbrev pub CommentsWrite : Type 0
CommentsWrite = (f : FormatView) (run : RunOf (commented_and_write f)) → AreGranted run.answers
    → run.texts ≡ file_text (made_of run.before run.after) ∷ []

-- what was printed of them, and run with `write` after it on the file before, writes it, too
abbrev pub CommentsJoin : Type 0
CommentsJoin = (f : FormatView) (run : JoinedRun (commented f)) → WritesMade run
