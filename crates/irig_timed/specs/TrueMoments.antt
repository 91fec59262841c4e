-- The time of a moment is that of the code. This project's own.
use Rattle.std.specs.Prelude.{ℕ, ◌<◌, Bool, List}
use Rattle.irig_codes.specs.{Format.FormatView, declared.fields.Fields.Fields}
use Rattle.irig_recording.specs.declared.pulse.Pulse.{Pulse}
use Rattle.irig_track.specs.Track.{IsLongTrack}
use Rattle.irig_law.specs.Theorem.{Story}
use Rattle.irig_timed.specs.{Moments.IsMomentOf, Moments.frames_by, NearTimes.IsNear}
use Rattle.irig_timed.specs.{NearTimes.Passes, declared.moment.Moment.Moment}

-- n / d microseconds after the start of a track the time of a moment is that of the code
abbrev pub IsTrueMoment : FormatView → Bool → ℕ → List Pulse → ℕ → ℕ → Moment → Type 0
IsTrueMoment f alone century ps d n x =
    (micros : ℕ) (name : ℕ → ℕ) (sent : ℕ → Fields) → IsLongTrack micros ps
    → Story f century ps (frames_by f alone century ps) name sent
    → (m : IsMomentOf f alone century ps d n x) (passed : ℕ → ℕ)
    → Passes f century ps (frames_by f alone century ps) d n x.time x.bound m.0 passed
    → IsNear f century ps (frames_by f alone century ps) d n x.time x.bound m.0 name sent passed

abbrev pub MomentsAreNear : Type 0
MomentsAreNear = (f : FormatView) (alone : Bool) (century : ℕ) (ps : List Pulse) (d n : ℕ) → 0 < d
    → (x : Moment) → IsTrueMoment f alone century ps d n x
