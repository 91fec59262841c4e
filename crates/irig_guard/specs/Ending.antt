-- What the program does for the words of its command line: from the files and the script to what is
-- printed and written. This project's own.
use Rattle.std.specs.Prelude.{◌≡◌, ℕ, List, Option, Some, None, Ok, Err, IfSome, is_some, true}
use Rattle.clap.specs.Words.{Text}
use Rattle.irig_files.specs.declared.dump_file.DumpFileFault.{DumpFileFault}
use Rattle.irig_files.specs.Tracks.{IsUnreadOrShort}
use Rattle.irig_guard.specs.declared.chosen.Settings.{Settings}
use Rattle.irig_guard.specs.declared.ending.Ending.TheVariants.{Usage, Unread, Over, Unknown}
use Rattle.irig_guard.specs.declared.ending.Ending.TheVariants.{OverOther, Ran, UnusableOther}
use Rattle.irig_guard.specs.Given.{Ends, Files, IsRead, place_of}
use Rattle.irig_guard.specs.{Others.IsOther, Others.IsUnusable, RunsBy.RunsBy}
use Rattle.irig_guard.specs.{Settings.Reads, Statuses.Reports}
use Rattle.irig_guard.specs.declared.ending.Ending.{Ending}

-- nothing was read of the script, printed or written
abbrev pub IsUntouched : Files → Ends → Ends → Type 0
IsUntouched given old new = (new ≡ old) × ((to : List ℕ) → given.kept to)

-- The script ran on the dump of the settings. Or that was not read, or the path to write leads to
-- it or to another recording, or that was not found out, or another recording cannot be used; and
-- nothing else was done.
abbrev pub Obeys : Files → Ends → Ends → Settings → Ending → Type 0
Obeys given old new chosen (Ran path result) =
    (path ≡ chosen.track) × ((source : List ℕ)
    × IfSome (given.held chosen.track.now) (λ all. source ≡ all)
    × RunsBy given chosen source old new result)
Obeys given old new chosen (Unread path fault) =
    (path ≡ chosen.track) × IsUntouched given old new
    × IsUnreadOrShort chosen.window (given.held chosen.track.now)
    (given.unread chosen.track.now) fault
Obeys given old new chosen Over =
    IsUntouched given old new × (is_some chosen.out ≡ true)
    × given.same chosen.track.now (place_of chosen)
Obeys given old new chosen Unknown = IsUntouched given old new
Obeys given old new chosen (OverOther path) =
    IsUntouched given old new × (is_some chosen.out ≡ true) × IsOther chosen path.now
    × given.same path.now (place_of chosen)
Obeys given old new chosen (UnusableOther path why) =
    IsUntouched given old new × IsOther chosen path.now
    × IsUnusable (given.held path.now) (given.unread path.now) why
Obeys given old new chosen (Usage fault) = ⊥

-- the fault for which the track was not read
abbrev pub unread_fault : Ending → Option DumpFileFault
unread_fault (Unread path fault) = Some fault
unread_fault ending = None

-- The settings are those of the words, and they were obeyed. However that ended, a crash at any
-- moment leaves at the places of the dump and of the other recordings what was there.
pub record Follows (words : List Text) (given : Files) (old new : Ends) (ending : Ending)
    : Type 0 where
  pub chosen : Settings
  pub reads : Reads words (Ok chosen)
  pub obeyed : Obeys given old new chosen ending
  pub stays : (path : List ℕ) → IsRead chosen path → given.spared path

-- they were obeyed, or the words have no settings
abbrev pub EndsBy : List Text → Files → Ends → Ends → Ending → Type 0
EndsBy words given old new (Usage fault) =
    Reads words (Err fault) × IsUntouched given old new
EndsBy words given old new ending = Follows words given old new ending

-- the words were obeyed; of how that ended is the status of the process, and what came to the
-- output of help
pub record Serves (words : List Text) (given : Files) (old new : Ends)
    (help helped : Option (List ℕ)) (status : ℕ) : Type 0 where
  pub ending : Ending
  pub obeyed : EndsBy words given old new ending
  pub told : Reports ending help helped status
