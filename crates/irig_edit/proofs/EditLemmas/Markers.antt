-- The markers of frames are pulses of the track.
use Rattle.std.proofs.Common.{◌≡◌, ◌<◌, ◌^◌, ℕ, List, slice_get, Some, arith}
use Rattle.std.proofs.lemmas.Option.{slice_get_within, get_or_from_slice_get}
use Rattle.std.specs.Prelude.{Contains}
use Rattle.irig_index.specs.declared.record.Record.{Record}
use Rattle.irig_index.proofs.MarkerLaws.{frames_are_the_markers}
use Rattle.irig_edit.specs.State.State.{State, IsState, frames_of}

contained : {X : Type 0} (xs : List X) (k : ℕ) (x : X) → slice_get xs k ≡ Some x → Contains xs x
contained xs k x is = (k, slice_get_within xs k x is, get_or_from_slice_get xs k x x is)

pub marker_within : (s : State) (k : ℕ) (r : Record) → IsState s → slice_get (frames_of s) k ≡ Some r → r.marker < 2 ^ 22
marker_within s k r lawful is =
    let tells = (frames_are_the_markers s.format s.pulses r).0 (contained (frames_of s) k r is) in
    omega (arith, slice_get_within s.pulses r.marker tells.marker tells.stands, lawful.track.few)
