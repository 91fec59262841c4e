-- Lines that are aligned with a recording. This project's own.
use Rattle.std.specs.Prelude.{◌≡◌, ◌⊎◌, ℕ, Bool, List, Option, Some, None, Result, Ok, Err, IfOk}
use Rattle.std.specs.Prelude.{is_some}
use denote.Ref.{Bor}
use Rattle.irig_codes.specs.Format.{FormatView}
use Rattle.irig_index.specs.Frames.{frames}
use Rattle.irig_recording.specs.declared.pulse.Pulse.{Pulse}
use Rattle.irig_track.specs.Edges.{edges_of}
use Rattle.irig_stamps.specs.declared.fault.RunFault.TheVariants.{OutOfMemory}
use Rattle.irig_stamps.specs.declared.settings.Settings.{Settings}
use Rattle.irig_stamps.specs.{Dates.doubted, Runs.Ends, declared.fault.RunFault.RunFault}
use Rattle.irig_stamps.specs.TrackSettings.{day_of, held_of, with_track}
use Rattle.irig_stamps.specs.{Named.Finds, declared.outcome.Outcome.Outcome}
use Rattle.irig_stamps.specs.{declared.outcome.Standing.Standing, declared.tally.Tally.Tally}

-- whether a frame of a track is believed, and how many have a time and are not
abbrev pub standing : Bool → ℕ → Standing
standing timed doubted = record { timed = timed; doubted = doubted }

abbrev pub standing_of : FormatView → List Pulse → Settings → Standing
standing_of f ps s =
    standing (is_some (day_of f ps s)) (doubted f (held_of f ps s) 0 (frames f ps))

-- the outcome of a run: what is counted of its lines, and which frames are believed
abbrev pub outcome : Tally → Standing → Outcome
outcome tally standing = record { tally = tally; standing = standing }

-- what is counted of the lines, or why the run was broken off
abbrev pub tally_of : Result Outcome RunFault → Result Tally RunFault
tally_of (Ok outcome) = Ok outcome.tally
tally_of (Err fault) = Err fault

-- the run ended as it does with the pulses that have these edges, in a track of some microseconds
pub record AlignsPulses (f : FormatView) (micros : ℕ) (edges : List ℕ) (s : Settings)
    (lines left from to : Option (List ℕ)) (result : Result Outcome RunFault) : Type 0 where
  pub pulses : List Pulse
  pub are : edges_of pulses ≡ edges
  pub ends : Ends f pulses (with_track f micros pulses s) lines left from to (tally_of result)
  pub stands : IfOk result (λ outcome. outcome.standing ≡ standing_of f pulses s)

-- the same; or memory ran out, and nothing was read or printed
abbrev pub AlignsNumbered : FormatView → ℕ → List ℕ → Settings → Option (List ℕ)
    → Option (List ℕ) → Option (List ℕ) → Option (List ℕ) → Result Outcome RunFault → Type 0
AlignsNumbered f micros edges s lines left from to result =
    AlignsPulses f micros edges s lines left from to result
    ⊎ ((result ≡ Err OutOfMemory) × ((left ≡ lines) × (to ≡ from)))

-- the settings with the number of a column, from 0
abbrev pub with_column : Settings → ℕ → Settings
with_column s k = record s { column = k }

-- the run ended as with the number of the column that has the name in the header; or that column is
-- not known, and nothing was printed
abbrev pub AlignsNamed : List ℕ → FormatView → ℕ → List ℕ → Settings → Option (List ℕ)
    → Option (List ℕ) → Option (List ℕ) → Option (List ℕ) → Result Outcome RunFault → Type 0
AlignsNamed name f micros edges s lines left from to result =
    ((k : ℕ) × (mid : Option (List ℕ)) × (bytes : List ℕ) × Finds s name lines mid bytes (Ok k)
    × AlignsPulses f micros edges (with_column s k) lines left from to result)
    ⊎ ((fault : RunFault) × (bytes : List ℕ) × (result ≡ Err fault)
    × (Finds s name lines left bytes (Err fault) × (to ≡ from)))

-- by the number of the column, or by its name
abbrev pub AlignsBy : Option (Bor (List ℕ)) → FormatView → ℕ → List ℕ → Settings
    → Option (List ℕ) → Option (List ℕ) → Option (List ℕ) → Option (List ℕ)
    → Result Outcome RunFault → Type 0
AlignsBy None f micros edges s lines left from to result =
    AlignsNumbered f micros edges s lines left from to result
AlignsBy (Some name) f micros edges s lines left from to result =
    AlignsNamed name.now f micros edges s lines left from to result

abbrev pub Aligns : FormatView → ℕ → List ℕ → Settings → Option (List ℕ) → Option (List ℕ)
    → Option (List ℕ) → Option (List ℕ) → Result Outcome RunFault → Type 0
Aligns f micros edges s = AlignsBy s.named f micros edges s
