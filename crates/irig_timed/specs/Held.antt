-- Of each record of a track, whether its frame is believed. This project's own.
use Rattle.std.specs.Prelude.{ℕ, ◌==◌, Bool, false, List, [], ◌∷◌, drop, if◌then◌else◌}
use Rattle.irig_codes.specs.Format.{FormatView}
use Rattle.irig_recording.specs.declared.pulse.Pulse.{Pulse}
use Rattle.irig_index.specs.{Frames.frames, declared.record.Record.Record}
use Rattle.irig_law.specs.declared.frame.Frame.{Frame}
use Rattle.irig_timed.specs.Moments.{frames_by}

-- the first of some frames begins with a pulse
abbrev pub begins_at : List Frame → ℕ → Bool
begins_at [] k = false
begins_at (a ∷ believed) k = a.marker == k

-- the frame of a record is the next one that is believed; both lists are in the order of the track
abbrev pub held_in : List Frame → List Record → List Bool
held_in believed [] = []
held_in believed (r ∷ rs) =
    begins_at believed r.marker
    ∷ held_in (if begins_at believed r.marker then drop 1 believed else believed) rs

abbrev pub held : FormatView → Bool → ℕ → List Pulse → List Bool
held f alone century ps = held_in (frames_by f alone century ps) (frames f ps)
