-- What the program does for the words of its command line: from the files and the script to what is
-- printed and written. This project's own.
use Rattle.std.specs.Prelude.{◌≡◌, ℕ, List, Option, Some, None, Ok, Err, IfSome, is_some, true}
use Rattle.clap.specs.Words.{Text}
use Rattle.irig_settings.specs.{Settings.Reads, declared.chosen.Settings.Settings}
use Rattle.irig_files.specs.declared.dump_file.DumpFileFault.{DumpFileFault}
use Rattle.irig_files.specs.Tracks.{IsUnreadOrShort, name_in}
use Rattle.irig_editor.specs.declared.ending.Ending.TheVariants.{Usage, Unread, Over, Unknown, Saved}
use Rattle.irig_editor.specs.declared.ending.Ending.TheVariants.{Ran}
use Rattle.irig_editor.specs.{Given.Ends, Given.Files, RunsBy.RunsBy, Windows.IsOfSession}
use Rattle.irig_editor.specs.{Statuses.Reports, declared.ending.Ending.Ending}

-- nothing was read of the script, printed or written
abbrev pub IsUntouched : Files → Ends → Ends → Type 0
IsUntouched given old new =
    (new ≡ old) × ((to : List ℕ) → given.kept to) × ((at : List ℕ) → given.spared at)

-- The script ran on the dump of the settings. Or that was not read; or a window of it is asked for,
-- and the path to write leads to it, or that was not found out, or it holds a saved session. Then
-- nothing else was done.
abbrev pub Obeys : Files → Ends → Ends → Settings → Ending → Type 0
Obeys given old new chosen (Ran path result) =
    (path ≡ chosen.track) × ((source : List ℕ)
    × IfSome (given.held chosen.track.now) (λ all. source ≡ all)
    × RunsBy given chosen source old new result)
Obeys given old new chosen (Unread path fault) =
    (path ≡ chosen.track) × IsUntouched given old new
    × IsUnreadOrShort chosen.window (given.held chosen.track.now)
    (given.unread chosen.track.now) fault
Obeys given old new chosen Over =
    IsUntouched given old new × (is_some chosen.window ≡ true)
    × given.same chosen.track.now chosen.out.now
Obeys given old new chosen Unknown = IsUntouched given old new × (is_some chosen.window ≡ true)
Obeys given old new chosen (Saved path) =
    (path ≡ chosen.track) × IsUntouched given old new × ((source : List ℕ)
    × IfSome (given.held chosen.track.now) (λ all. source ≡ all)
    × IsOfSession chosen.window (name_in chosen.wire) source)
Obeys given old new chosen (Usage fault) = ⊥

-- the fault for which the track was not read
abbrev pub unread_fault : Ending → Option DumpFileFault
unread_fault (Unread path fault) = Some fault
unread_fault ending = None

-- the settings are those of the words, and they were obeyed; or the words have none
abbrev pub EndsBy : List Text → Files → Ends → Ends → Ending → Type 0
EndsBy words given old new (Usage fault) =
    Reads words (Err fault) × IsUntouched given old new
EndsBy words given old new ending =
    (chosen : Settings) × Reads words (Ok chosen) × Obeys given old new chosen ending

-- the words were obeyed; of how that ended is the status of the process, and what came to the
-- output of help
pub record Serves (words : List Text) (given : Files) (old new : Ends)
    (help helped : Option (List ℕ)) (status : ℕ) : Type 0 where
  pub ending : Ending
  pub obeyed : EndsBy words given old new ending
  pub told : Reports ending help helped status
