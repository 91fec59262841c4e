-- Why a track is left unread. This project's own.
use Rattle.std.specs.Prelude.{◌≡◌, ◌⊎◌, ℕ, List, Option}
use Rattle.irig_recording.specs.Recording.{RecordingView}
use Rattle.irig_diff.specs.declared.ending.Ending.TheVariants.{Unread}
use Rattle.irig_diff.specs.{declared.chosen.Settings.Settings, declared.ending.Ending.Ending}
use Rattle.irig_files.specs.Tracks.{HasFault, Says, Unreadable, name_in}
use Rattle.irig_files.specs.declared.track.TrackFault.{TrackFault}
use Rattle.irig_files.specs.declared.track.TrackFault.TheVariants.{File}
use Rattle.irig_files.specs.declared.dump_file.DumpFileFault.TheVariants.{OutOfMemory}

-- what the files hold, by their paths
abbrev pub Held : Type 0
Held = List ℕ → Option (List ℕ)

-- a track of the settings has this fault
abbrev pub HasFaultAt : Held → Unreadable → Settings → List ℕ → TrackFault → Type 0
HasFaultAt held unread chosen path fault =
    ((path ≡ chosen.before.now)
    × HasFault chosen.window (held chosen.before.now) (unread chosen.before.now)
    (name_in chosen.wire) fault)
    ⊎ ((path ≡ chosen.after.now)
    × HasFault chosen.window (held chosen.after.now) (unread chosen.after.now)
    (name_in chosen.wire_after) fault)

-- both tracks of the settings were read
abbrev pub AreRead : Held → Settings → Type 0
AreRead held chosen = (before after : RecordingView)
    × Says chosen.window (held chosen.before.now) (name_in chosen.wire) before
    × Says chosen.window (held chosen.after.now) (name_in chosen.wire_after) after

-- a track was left unread for a fault that it has, or after both were read
abbrev pub FailsForItself : Held → Unreadable → Settings → Ending → Type 0
FailsForItself held unread chosen (Unread path fault) =
    HasFaultAt held unread chosen path.now fault ⊎ AreRead held chosen
FailsForItself held unread chosen ending = Unit {0}

-- a track of the settings has this fault, or memory ran out for the patch between the tracks
abbrev pub IsUncompared : Held → Unreadable → Settings → List ℕ → TrackFault → Type 0
IsUncompared held unread chosen path fault =
    (((path ≡ chosen.before.now) ⊎ (path ≡ chosen.after.now)) × (fault ≡ File OutOfMemory))
    ⊎ HasFaultAt held unread chosen path fault
