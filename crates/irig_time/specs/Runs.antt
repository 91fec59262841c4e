-- What is done with the track that is chosen: from a dump and lines to the lines with their times,
-- or from a dump to its table, or to its stretches without a time. This project's own.
use Rattle.std.specs.Prelude.{◌≡◌, ◌⊎◌, ℕ, Bool, List, Option, Some, None, Ok, Err}
use Rattle.irig_recording.specs.Recording.{RecordingView}
use Rattle.irig_stamps.specs.{Aligned.Aligns, HoleTexts.ListsHolesRecording}
use Rattle.irig_stamps.specs.{Tables.ListsRecording}
use Rattle.irig_stamps.specs.declared.outcome.{Outcome.Outcome, Standing.Standing}
use Rattle.irig_stamps.specs.declared.fault.RunFault.{RunFault}
use Rattle.irig_time.specs.declared.ending.Ending.TheVariants.{Broken, Holed, Unread}
use Rattle.irig_files.specs.Tracks.{HasFaultBy, SaysBy, Unreadable, name_in}
use Rattle.irig_files.specs.declared.track.TrackFault.{TrackFault}
use Rattle.irig_vcd.specs.Extent.{long}
use Rattle.irig_time.specs.{Done.done_of, Done.ending_of, Given.Held}
use Rattle.irig_time.specs.declared.task.Task.TheVariants as task
use Rattle.irig_time.specs.{declared.chosen.Chosen.Chosen, declared.ending.Ending.Ending}
use Rattle.irig_time.specs.{declared.task.Task.Task}

-- the lines were aligned with the pulses that have these edges, in a track of some microseconds,
-- and the ending is that of the outcome; or the run was broken off
abbrev pub AlignsAs : Chosen → ℕ → List ℕ → Option (List ℕ) → Option (List ℕ) → Option (List ℕ)
    → Option (List ℕ) → Ending → Type 0
AlignsAs chosen micros edges lines left from to ending =
    ((outcome : Outcome)
    × Aligns chosen.format micros edges chosen.settings lines left from to (Ok outcome)
    × (ending ≡ ending_of chosen outcome.standing (Some (done_of chosen micros outcome))))
    ⊎ ((fault : RunFault) × (ending ≡ Broken fault)
    × Aligns chosen.format micros edges chosen.settings lines left from to (Err fault))

-- the same with the table of the pulses that have these edges
abbrev pub ListsAs : Chosen → List ℕ → Option (List ℕ) → Option (List ℕ) → Ending → Type 0
ListsAs chosen edges from to ending =
    ((standing : Standing)
    × ListsRecording chosen.format edges chosen.settings from to (Ok standing)
    × (ending ≡ ending_of chosen standing None))
    ⊎ ((fault : RunFault) × (ending ≡ Broken fault)
    × ListsRecording chosen.format edges chosen.settings from to (Err fault))

-- the same with the stretches without a time, in a track of some microseconds
abbrev pub HolesAs : Bool → Chosen → ℕ → List ℕ → Option (List ℕ) → Option (List ℕ) → Ending
    → Type 0
HolesAs json chosen micros edges from to (Holed found) =
    (found.path ≡ chosen.track) × (found.micros ≡ micros) × (found.quiet ≡ chosen.quiet)
    × ListsHolesRecording chosen.format micros edges chosen.settings json from to (Ok found.holes)
HolesAs json chosen micros edges from to (Broken fault) =
    ListsHolesRecording chosen.format micros edges chosen.settings json from to (Err fault)
HolesAs json chosen micros edges from to _ = ⊥

-- a list was printed and no line read, if it is asked for; else the lines were aligned
abbrev pub RunsAs : Task → Chosen → ℕ → List ℕ → Option (List ℕ) → Option (List ℕ)
    → Option (List ℕ) → Option (List ℕ) → Ending → Type 0
RunsAs task.Table chosen micros edges lines left from to ending =
    (left ≡ lines) × ListsAs chosen edges from to ending
RunsAs (task.Holes json) chosen micros edges lines left from to ending =
    (left ≡ lines) × HolesAs json chosen micros edges from to ending
RunsAs task.Lines chosen micros edges lines left from to ending =
    AlignsAs chosen micros edges lines left from to ending

-- the same with the length and the edges of the wire that the file says, of up to 2^26 pulses
pub record RunsFile (held : Held) (chosen : Chosen) (lines left from to : Option (List ℕ))
    (ending : Ending) : Type 0 where
  pub recording : RecordingView
  pub of_track : SaysBy (long chosen.window) (held chosen.track.now) (name_in chosen.wire) recording
  pub ran : RunsAs chosen.task chosen recording.micros recording.edges lines left from to ending

-- what is asked for was done with the track; or it was not read, and nothing was read or printed
abbrev pub Obeys : Held → Unreadable → Chosen → Option (List ℕ) → Option (List ℕ)
    → Option (List ℕ) → Option (List ℕ) → Ending → Type 0
Obeys held unread chosen lines left from to ending =
    RunsFile held chosen lines left from to ending
    ⊎ ((fault : TrackFault) × (ending ≡ Unread chosen.track fault)
    × HasFaultBy (long chosen.window) (held chosen.track.now) (unread chosen.track.now)
    (name_in chosen.wire) fault × (left ≡ lines) × (to ≡ from))
