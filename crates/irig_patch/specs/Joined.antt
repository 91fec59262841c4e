-- What the two programs make together: the script that irig_diff prints, with `write` after it, on
-- the file before. This project's own.
use Rattle.std.specs.Prelude.{◌≡◌, ◌++◌, ℕ, List, [], ◌∷◌, Option, Some, Ok, codes}
use Rattle.std.specs.Io.KnownBytes.{Appends}
use Rattle.irig_text.specs.Shelved.{Puts}
use Rattle.irig_codes.specs.Format.{FormatView}
use Rattle.irig_recording.specs.FileText.{file_text}
use Rattle.irig_recording.specs.Recording.{RecordingView, IsRecording, UpTo}
use Rattle.irig_vcd.specs.Parts.{dump_parts}
use Rattle.irig_difference.specs.PatchText.{patch_text}
use Rattle.irig_script.specs.declared.obey.status.Status.TheVariants.{AllAccepted}
use Rattle.irig_script.specs.{Obey.Desk.Desk, Obey.DumpRun.RunsOnDump}
use Rattle.irig_patch.specs.Patched.{made_of}

-- two recordings, the first of them that of a dump, with a journal if it is a saved session, and no
-- edge of the second above its length; the script of them that was printed; and a run of that, with
-- `write` after it, on the dump, in which no line was refused
pub record JoinedRun (script : RecordingView → RecordingView → List ℕ) : Type 0 where
  pub wire : Option (List ℕ)
  pub dump : List ℕ
  pub journal : Option (List ℕ)
  pub before : RecordingView
  pub after : RecordingView
  pub is_before : IsRecording before.micros before.edges
  pub is_after : IsRecording after.micros after.edges
  pub of_dump : dump_parts wire dump ≡ Ok (before, journal)
  pub covers : UpTo before.micros after.edges
  pub printed : List ℕ
  pub printing : Appends (Some []) (Some printed) (script before after)
  pub format : FormatView
  pub left : Option (List ℕ)
  pub from : Desk
  pub to : Desk
  pub ran : RunsOnDump wire format dump (Some (printed ++ codes "write\n")) left from to
      (Ok AllAccepted)

-- one text was written, the dump of the edges of the second recording, and no write failed
abbrev pub WritesMade : {script : RecordingView → RecordingView → List ℕ} → JoinedRun script
    → Type 0
WritesMade run =
    Puts run.from.shelf run.to.shelf (file_text (made_of run.before run.after) ∷ []) 0

-- so it is of the patch
abbrev pub PatchesJoin : Type 0
PatchesJoin = (run : JoinedRun patch_text) → WritesMade run
