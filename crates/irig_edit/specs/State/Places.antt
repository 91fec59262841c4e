-- How many pulses and how many records the present state has places for. This project's own.
use Rattle.std.specs.Prelude.{◌≡◌, ℕ, ◌≤◌, ◌+◌, length}
use Rattle.irig_edit.specs.{State.Present.PresentView, State.State.State, State.State.frames_of}

-- this many pulses and this many records have places
pub record Places : Type 0 where
  pub pulses : ℕ
  pub records : ℕ

-- the places of the present state, taken and spare
abbrev pub places_in : PresentView → Places
places_in p = record {
  pulses = length p.state.pulses + p.spare;
  records = length (frames_of p.state) + p.index.room;
}

-- the second are as many places as the first, or more
pub record IsWithin (a b : Places) : Type 0 where
  pub pulses : a.pulses ≤ b.pulses
  pub records : a.records ≤ b.records

-- the pulses of a state and this many more have places, and its frames have
pub record HoldsState (p : Places) (more : ℕ) (s : State) : Type 0 where
  pub pulses : length s.pulses + more ≤ p.pulses
  pub records : length (frames_of s) ≤ p.records

-- as many pulses and records have places as before
pub record KeepsPlaces (old new : PresentView) : Type 0 where
  pub pulses : length new.state.pulses + new.spare ≡ length old.state.pulses + old.spare
  pub records : length (frames_of new.state) + new.index.room
      ≡ length (frames_of old.state) + old.index.room
