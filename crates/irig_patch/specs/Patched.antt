-- What a patch makes of a session. This project's own.
use Rattle.std.specs.Prelude.{◌≡◌, ◌+◌, ◌⊎◌, ℕ, List, length}
use Rattle.irig_recording.specs.Recording.{RecordingView, RisesFrom, UpTo, recording_view}
use Rattle.irig_recording.specs.declared.pulse.Pulse.{Pulse}
use Rattle.irig_track.specs.Edges.{edges_of}
use Rattle.irig_difference.specs.Flips.{patched}
use Rattle.irig_edit.specs.declared.session.refusal.Refusal.{Refusal}
use Rattle.irig_edit.specs.declared.session.refusal.Refusal.TheVariants.{TooMany, OutOfMemory}
use Rattle.irig_edit.specs.{Session.Session.SessionView, State.State.State}

-- the edges of the one recording in the length of the other: no line changes a length. If both are
-- as long, it is the second one
abbrev pub made_of : RecordingView → RecordingView → RecordingView
made_of before after = recording_view before.micros after.edges

-- the stretches rise, within a length
abbrev pub AreStretches : ℕ → List Pulse → Type 0
AreStretches micros stretches =
    RisesFrom 0 (edges_of stretches) × UpTo micros (edges_of stretches)

-- the state with the level inverted in each of the stretches
pub record IsPatched (stretches : List Pulse) (old new : State) : Type 0 where
  pub edges : edges_of new.pulses ≡ patched stretches (edges_of old.pulses)
  pub micros : new.micros ≡ old.micros
  pub format : new.format ≡ old.format
  pub marks : new.marks ≡ old.marks

-- each stretch was one step, and the state is patched
pub record Patches (stretches : List Pulse) (old new : SessionView) : Type 0 where
  pub state : IsPatched stretches old.state new.state
  pub steps : length new.past ≡ length old.past + length stretches

-- why a patch is refused: too many pulses on the way, or memory ran out
abbrev pub StopsPatch : Refusal → Type 0
StopsPatch refusal = (refusal ≡ TooMany) ⊎ (refusal ≡ OutOfMemory)
