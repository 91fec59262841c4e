-- What the text of a patch does as a script. This project's own.
use Rattle.std.specs.Prelude.{◌≡◌, ◌++◌, List, [], ◌∷◌, ℕ, codes}
use Rattle.std.specs.List.{AllByRecursion}
use Rattle.irig_recording.specs.FileText.{file_text}
use Rattle.irig_recording.specs.Recording.{RecordingView, IsRecording, UpTo}
use Rattle.irig_difference.specs.{PatchText.patch_text, Stretches.stretches_between}
use Rattle.irig_edit.specs.State.State.{recording_of}
use Rattle.irig_lines.specs.Lines.{script_lines}
use Rattle.irig_script.specs.declared.print.reply.Reply.{Reply}
use Rattle.irig_script.specs.declared.print.reply.Reply.TheVariants.{Silent, Refused, Written}
use Rattle.irig_script.specs.{Obey.Machine.Machine, Obey.Run.Runs, Print.Printed.Answer}
use Rattle.irig_patch.specs.Patched.{Patches, StopsPatch, made_of}

-- two recordings, no edge of the second above the length of the first, and a run of a script that
-- they give on a session of the first one
pub record RunOf (script : RecordingView → RecordingView → List ℕ) : Type 0 where
  pub before : RecordingView
  pub after : RecordingView
  pub is_before : IsRecording before.micros before.edges
  pub is_after : IsRecording after.micros after.edges
  pub covers : UpTo before.micros after.edges
  pub old : Machine
  pub new : Machine
  pub opened : recording_of old.state ≡ before
  pub answers : List Answer
  pub texts : List (List ℕ)
  pub runs : Runs old (script_lines (script before after)) answers texts new

-- the patch, and then a line that writes the track
abbrev pub patch_and_write : RecordingView → RecordingView → List ℕ
patch_and_write before after = patch_text before after ++ codes "write\n"

-- an edit was made, or a text was written
abbrev pub IsGranted : Reply → Type 0
IsGranted Silent = Unit {0}
IsGranted (Written count) = Unit {0}
IsGranted _ = ⊥

-- all lines were granted
abbrev pub AreGranted : List Answer → Type 0
AreGranted answers = AllByRecursion (λ a. IsGranted a.reply) answers

-- an answer is silent, or there would be too many pulses, or memory ran out
abbrev pub MayStop : Reply → Type 0
MayStop Silent = Unit {0}
MayStop (Refused why) = StopsPatch why
MayStop _ = ⊥

-- if no line is refused, the patch leaves a session of the edges of the second recording, and each
-- stretch was a step
abbrev pub PatchesMake : Type 0
PatchesMake = (run : RunOf patch_text) → AreGranted run.answers
    → (recording_of run.new.state ≡ made_of run.before run.after)
    × Patches (stretches_between run.before run.after) run.old run.new

-- no line of a patch is refused for another reason, and nothing is written
abbrev pub PatchesStop : Type 0
PatchesStop = (run : RunOf patch_text)
    → AllByRecursion (λ a. MayStop a.reply) run.answers × (run.texts ≡ [])

-- if no line is refused and the write does not fail, what is written is the dump of the edges of
-- the second recording
abbrev pub PatchesWrite : Type 0
PatchesWrite = (run : RunOf patch_and_write) → AreGranted run.answers
    → run.texts ≡ file_text (made_of run.before run.after) ∷ []

-- of recordings of one length, that is the second one, and it has no edge above the length
abbrev pub AsLong : Type 0
AsLong = (before after : RecordingView) → IsRecording after.micros after.edges
    → before.micros ≡ after.micros
    → (made_of before after ≡ after) × UpTo before.micros after.edges
