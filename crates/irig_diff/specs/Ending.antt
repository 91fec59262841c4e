-- What the program does for the words of its command line: from two files to the patch that is
-- printed. This project's own.
use Rattle.std.specs.Prelude.{◌≡◌, ◌↔◌, Bool, true, ℕ, List, Option, Ok, Err}
use Rattle.std.specs.Io.KnownBytes.{Appends}
use Rattle.clap.specs.Words.{Text}
use Rattle.irig_recording.specs.Recording.{RecordingView}
use Rattle.irig_diff.specs.declared.ending.Ending.TheVariants.{Usage, Unread, Compared}
use Rattle.irig_diff.specs.declared.ending.Ending.TheVariants.{Unprinted}
use Rattle.irig_diff.specs.{Printing.AppendsFront, Settings.Reads}
use Rattle.irig_files.specs.Tracks.{Says, Unreadable, name_in}
use Rattle.irig_diff.specs.declared.chosen.Settings.{Settings}
use Rattle.irig_diff.specs.declared.ending.Ending.{Ending}
use Rattle.irig_diff.specs.{Patches.text_between, Unread.Held, Unread.IsUncompared}

-- the patch between the tracks of the settings, or windows of them, was printed, and they are the
-- same or not
pub record Compares (held : Held) (chosen : Settings) (old new : Option (List ℕ)) (same : Bool)
    : Type 0 where
  pub before : RecordingView
  pub after : RecordingView
  pub of_before : Says chosen.window (held chosen.before.now) (name_in chosen.wire) before
  pub of_after : Says chosen.window (held chosen.after.now) (name_in chosen.wire_after) after
  pub printed : Appends old new (text_between chosen.frames before after)
  pub told : same ≡ true ↔ before ≡ after

-- only a front of that patch was printed
pub record Breaks (held : Held) (chosen : Settings) (old new : Option (List ℕ)) : Type 0 where
  pub before : RecordingView
  pub after : RecordingView
  pub of_before : Says chosen.window (held chosen.before.now) (name_in chosen.wire) before
  pub of_after : Says chosen.window (held chosen.after.now) (name_in chosen.wire_after) after
  pub printed : AppendsFront old new (text_between chosen.frames before after)

-- the tracks of the settings were compared; or one was not read, and nothing was printed
abbrev pub Obeys : Held → Unreadable → Settings → Option (List ℕ) → Option (List ℕ) → Ending
    → Type 0
Obeys held unread chosen old new (Compared same) = Compares held chosen old new same
Obeys held unread chosen old new (Unread path fault) =
    IsUncompared held unread chosen path.now fault × (new ≡ old)
Obeys held unread chosen old new (Unprinted why) = Breaks held chosen old new
Obeys held unread chosen old new (Usage fault) = ⊥

-- the settings are those of the words, and they were obeyed; or the words have none
abbrev pub EndsBy : List Text → Held → Unreadable → Option (List ℕ) → Option (List ℕ) → Ending
    → Type 0
EndsBy words held unread old new (Usage fault) = Reads words (Err fault) × (new ≡ old)
EndsBy words held unread old new ending =
    (chosen : Settings) × Reads words (Ok chosen) × Obeys held unread chosen old new ending
