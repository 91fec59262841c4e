-- What the program does for the words of its command line: from a file to the listing that is
-- printed. This project's own.
use Rattle.std.specs.Prelude.{◌≡◌, ℕ, List, Option, Ok, Err, not}
use Rattle.std.specs.Io.KnownBytes.{Appends}
use Rattle.clap.specs.Words.{Text}
use Rattle.irig_files.specs.Tracks.{HasFaultBy, SaysBy, Unreadable, name_in}
use Rattle.irig_print.specs.Front.{AppendsFront}
use Rattle.irig_recording.specs.Recording.{RecordingView}
use Rattle.irig_vcd.specs.Extent.{long}
use Rattle.irig_happenings.specs.{Listings.IsListing, Parts.is_quiet, Texts.texts}
use Rattle.irig_happenings.specs.declared.part.Part.{Part}
use Rattle.irig_explain.specs.Settings.{Reads}
use Rattle.irig_explain.specs.declared.chosen.Chosen.{Chosen}
use Rattle.irig_explain.specs.declared.ending.Ending.{Ending}
use Rattle.irig_explain.specs.declared.ending.Ending.TheVariants.{Usage, Unread, Listed}
use Rattle.irig_explain.specs.declared.ending.Ending.TheVariants.{OutOfMemory, Unprinted}

-- what the files hold, by their paths
abbrev pub Held : Type 0
Held = List ℕ → Option (List ℕ)

-- just the text of the listing was printed, with margins if they are asked for; or nothing, if
-- memory ran out; or a front of it, if the output failed
abbrev pub Lists : Chosen → List ℕ → Option (List ℕ) → Option (List ℕ) → Ending → Type 0
Lists chosen edges old new (Listed quiet) =
    (parts : List Part) × IsListing chosen.format edges (not chosen.sure) parts
    × Appends old new (texts chosen.json parts) × (quiet ≡ is_quiet parts)
Lists chosen edges old new OutOfMemory = new ≡ old
Lists chosen edges old new (Unprinted why) =
    (parts : List Part) × IsListing chosen.format edges (not chosen.sure) parts
    × AppendsFront old new (texts chosen.json parts)
Lists chosen edges old new _ = ⊥

-- the same with the edges of the wire that the file says, of up to 2^26 pulses
pub record ListsFile (held : Held) (chosen : Chosen) (old new : Option (List ℕ)) (ending : Ending)
    : Type 0 where
  pub recording : RecordingView
  pub of_track : SaysBy (long chosen.window) (held chosen.track.now) (name_in chosen.wire) recording
  pub lists : Lists chosen recording.edges old new ending

-- what is asked for was done; or the track was not read, and nothing was printed
abbrev pub Obeys : Held → Unreadable → Chosen → Option (List ℕ) → Option (List ℕ) → Ending
    → Type 0
Obeys held unread chosen old new (Unread path fault) =
    (path ≡ chosen.track) × HasFaultBy (long chosen.window) (held chosen.track.now)
    (unread chosen.track.now) (name_in chosen.wire) fault × (new ≡ old)
Obeys held unread chosen old new (Usage fault) = ⊥
Obeys held unread chosen old new ending = ListsFile held chosen old new ending

-- the settings are those of the words, and they were obeyed; or the words have none
abbrev pub EndsBy : List Text → Held → Unreadable → Option (List ℕ) → Option (List ℕ) → Ending
    → Type 0
EndsBy words held unread old new (Usage fault) = Reads words (Err fault) × (new ≡ old)
EndsBy words held unread old new ending =
    (chosen : Chosen) × Reads words (Ok chosen) × Obeys held unread chosen old new ending
