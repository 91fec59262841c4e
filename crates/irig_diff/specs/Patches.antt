-- The patch between two recordings, and what is printed of it. This project's own.
use Rattle.std.specs.Prelude.{◌≡◌, ◌↔◌, ◌⊎◌, true, ℕ, List, Option, Some, None}
use Rattle.std.specs.Io.KnownBytes.{Appends}
use Rattle.irig_codes.specs.Format.{FormatView}
use Rattle.irig_comments.specs.{Framed.framed, Commented.commented_text}
use Rattle.irig_difference.specs.PatchText.{patch_text}
use Rattle.irig_recording.specs.Recording.{RecordingView}
use Rattle.irig_diff.specs.declared.ending.Ending.TheVariants.{Unread, Compared}
use Rattle.irig_diff.specs.declared.ending.Ending.TheVariants.{Unprinted}
use Rattle.irig_diff.specs.{Printing.AppendsFront}
use Rattle.irig_diff.specs.declared.chosen.Settings.{Settings}
use Rattle.irig_diff.specs.declared.ending.Ending.{Ending}
use Rattle.irig_files.specs.declared.track.TrackFault.TheVariants.{File}
use Rattle.irig_files.specs.declared.dump_file.DumpFileFault.TheVariants.{OutOfMemory}

-- the patch between two recordings: plain, or with comments that show frames in a format
abbrev pub text_between : Option FormatView → RecordingView → RecordingView → List ℕ
text_between None before after = patch_text before after
text_between (Some f) before after = commented_text (framed f before) (framed f after)

-- the text was printed, and the recordings are the same or not; or the output failed
abbrev pub PrintsText : List ℕ → RecordingView → RecordingView → Option (List ℕ)
    → Option (List ℕ) → Ending → Type 0
PrintsText text before after old new (Compared same) =
    Appends old new text × (same ≡ true ↔ before ≡ after)
PrintsText text before after old new (Unprinted why) = AppendsFront old new text
PrintsText text before after old new _ = ⊥

-- the same; or memory ran out for the frames of one of the tracks, and nothing was printed
abbrev pub PrintsIfRoom : Settings → List ℕ → RecordingView → RecordingView → Option (List ℕ)
    → Option (List ℕ) → Ending → Type 0
PrintsIfRoom chosen text before after old new (Unread path fault) =
    ((path ≡ chosen.before) ⊎ (path ≡ chosen.after)) × (fault ≡ File OutOfMemory) × (new ≡ old)
PrintsIfRoom chosen text before after old new ending = PrintsText text before after old new ending
