-- The text of stretches without a time, and what is known on the way. This project's own.
use Rattle.std.specs.Prelude.{◌≡◌, ◌-◌, ◌^◌, ℕ, Bool, List, [], ◌∷◌, Option, Some, None, Result}
use Rattle.std.specs.Prelude.{Ok, Err, length, min}
use Rattle.std.specs.Io.KnownBytes.{Appends}
use Rattle.irig_codes.specs.Format.{FormatView}
use Rattle.irig_recording.specs.declared.pulse.Pulse.{Pulse}
use Rattle.irig_track.specs.Edges.{edges_of}
use Rattle.irig_times.specs.declared.why.Why.{Why}
use Rattle.irig_timed.specs.Reasons.{HasNoTime}
use Rattle.irig_stamps.specs.declared.fault.RunFault.TheVariants.{PrintFailed, OutOfMemory}
use Rattle.irig_print.specs.Front.{AppendsFront}
use Rattle.irig_stamps.specs.{Aligned.standing_of, HoleRows.rows}
use Rattle.irig_stamps.specs.{Holes.AreHoles, Joined.total, declared.fault.RunFault.RunFault}
use Rattle.irig_stamps.specs.{declared.holes.Holes.Holes, declared.pending.Pending.Pending}
use Rattle.irig_stamps.specs.{declared.settings.Settings.Settings, declared.stretch.Stretch.Stretch}

-- the rows of all stretches but the last are in a text
abbrev pub IsShown : Bool → Option ℕ → Option Stretch → List ℕ → List Stretch → Type 0
IsShown json comma None text stretches = (stretches ≡ []) × (text ≡ [])
IsShown json comma (Some s) text stretches =
    (before : List Stretch) × (stretches ≡ s ∷ before) × (text ≡ rows json comma before)

-- so it is of the stretches without a time as far as a microsecond
pub record IsUpTo (has_none : ℕ → ℕ → Why → Type 0) (json : Bool) (comma : Option ℕ) (limit : ℕ)
    (p : Pending) : Type 0 where
  pub stretches : List Stretch
  pub shown : IsShown json comma p.last p.text.items stretches
  pub untimed : p.untimed ≡ min (total stretches) (2 ^ 64 - 1)
  pub count : p.count ≡ min (length stretches) (2 ^ 64 - 1)
  pub holes : AreHoles has_none limit stretches

-- just the rows of the stretches without a time of a track of some microseconds are a text
pub record IsText (has_none : ℕ → ℕ → Why → Type 0) (json : Bool) (comma : Option ℕ) (limit : ℕ)
    (text : List ℕ) (untimed count : ℕ) : Type 0 where
  pub stretches : List Stretch
  pub holes : AreHoles has_none limit stretches
  pub rows_are : text ≡ rows json comma stretches
  pub untimed_is : untimed ≡ min (total stretches) (2 ^ 64 - 1)
  pub count_is : count ≡ min (length stretches) (2 ^ 64 - 1)

-- they were printed; or a front of them, if the output failed; or nothing, if memory ran out
abbrev pub ListsHoles : FormatView → ℕ → List Pulse → Settings → Bool → Option (List ℕ)
    → Option (List ℕ) → Result Holes RunFault → Type 0
ListsHoles f micros ps s json from to (Ok holes) =
    (holes.standing ≡ standing_of f ps s) × (text : List ℕ)
    × IsText (HasNoTime f s.alone s.century ps) json s.comma micros text holes.untimed
    holes.count
    × Appends from to text
ListsHoles f micros ps s json from to (Err (PrintFailed why)) =
    (text : List ℕ) × (untimed : ℕ) × (count : ℕ)
    × IsText (HasNoTime f s.alone s.century ps) json s.comma micros text untimed count
    × AppendsFront from to text
ListsHoles f micros ps s json from to (Err OutOfMemory) = to ≡ from
ListsHoles f micros ps s json from to (Err _) = ⊥

-- the same with the pulses that have these edges
pub record ListsHolesRecording (f : FormatView) (micros : ℕ) (edges : List ℕ) (s : Settings)
    (json : Bool) (from to : Option (List ℕ)) (result : Result Holes RunFault) : Type 0 where
  pub pulses : List Pulse
  pub are : edges_of pulses ≡ edges
  pub lists : ListsHoles f micros pulses s json from to result
