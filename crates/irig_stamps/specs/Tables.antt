-- A table of the frames of a track that have a time. This project's own.
use Rattle.std.specs.Prelude.{◌≡◌, ◌⊎◌, ℕ, ◌++◌, Bool, true, false, List, [], ◌∷◌, Option, Some}
use Rattle.std.specs.Prelude.{None, Result, Ok, Err, codes, decimal, unwrap_or, slice_get, suc}
use Rattle.std.specs.Io.KnownBytes.{Appends}
use Rattle.irig_stamps.specs.declared.outcome.Standing.{Standing}
use Rattle.irig_codes.specs.Format.{FormatView}
use Rattle.irig_index.specs.{Frames.frames, declared.record.Record.Record}
use Rattle.irig_recording.specs.declared.pulse.Pulse.{Pulse}
use Rattle.irig_track.specs.Edges.{edges_of}
use Rattle.irig_times.specs.{Starts.IsStartOf, declared.start.FrameStart.FrameStart}
use Rattle.irig_stamps.specs.declared.fault.RunFault.TheVariants.{PrintFailed, OutOfMemory}
use Rattle.irig_print.specs.Front.{AppendsFront}
use Rattle.irig_stamps.specs.{Aligned.standing_of}
use Rattle.irig_stamps.specs.TrackSettings.{held_of, with_first_day}
use Rattle.irig_stamps.specs.{Texts.word_of, declared.fault.RunFault.RunFault}
use Rattle.irig_stamps.specs.declared.settings.Settings.{Settings}

-- whether the next frame follows one; or that it is not believed
abbrev pub answer_of : Option Bool → Bool → List ℕ
answer_of None followed = codes "unsupported"
answer_of (Some false) followed = codes "unsupported"
answer_of (Some true) true = codes "yes"
answer_of (Some true) false = codes "no"

-- the row of a frame: when its marker rises, its time, and whether the next frame follows it
abbrev pub row_text : Settings → Option Bool → FrameStart → List ℕ
row_text s held start =
    decimal start.rise ++ (unwrap_or s.comma 9 ∷ word_of s (Some start.time)
    ++ (unwrap_or s.comma 9 ∷ answer_of held start.is_followed ++ 10 ∷ []))

-- a frame without a time has no row
abbrev pub row_of : Settings → Option Bool → Option FrameStart → List ℕ
row_of s held None = []
row_of s held (Some start) = row_text s held start

-- the text is the rows of the frames of some records, in order: those from a place on
abbrev pub IsTable : FormatView → List Pulse → Settings → ℕ → List Record → List ℕ → Type 0
IsTable f ps s place [] text = text ≡ []
IsTable f ps s place (r ∷ rs) text =
    (start : Option FrameStart) × (rest : List ℕ) × IsStartOf f s.century ps r start
    × (IsTable f ps s (suc place) rs rest
    × (text ≡ row_of s (slice_get (held_of f ps s) place) start ++ rest))

-- the table was printed, and it is known whether a frame has a time; or only a front of it, if the
-- output failed; or nothing, if memory ran out
abbrev pub Lists : FormatView → List Pulse → Settings → Option (List ℕ) → Option (List ℕ)
    → Result Standing RunFault → Type 0
Lists f ps s from to (Ok stands) =
    (stands ≡ standing_of f ps s)
    × (text : List ℕ) × IsTable f ps s 0 (frames f ps) text × Appends from to text
Lists f ps s from to (Err (PrintFailed why)) =
    (text : List ℕ) × IsTable f ps s 0 (frames f ps) text × AppendsFront from to text
Lists f ps s from to (Err OutOfMemory) = to ≡ from
Lists f ps s from to (Err _) = ⊥

-- the same with the pulses that have these edges
pub record ListsEdges (f : FormatView) (edges : List ℕ) (s : Settings)
    (from to : Option (List ℕ)) (result : Result Standing RunFault) : Type 0 where
  pub pulses : List Pulse
  pub are : edges_of pulses ≡ edges
  pub lists : Lists f pulses (with_first_day f pulses s) from to result

-- or memory ran out before, and nothing was printed
abbrev pub ListsRecording : FormatView → List ℕ → Settings → Option (List ℕ) → Option (List ℕ)
    → Result Standing RunFault → Type 0
ListsRecording f edges s from to result =
    ListsEdges f edges s from to result ⊎ ((result ≡ Err OutOfMemory) × (to ≡ from))
