-- The room that a change asks for before its turn. This project's own.
use Rattle.std.specs.Prelude.{ℕ, ◌≤◌, ◌+◌, ◌-◌, length, min}
use Rattle.irig_index.specs.Frames.{frames}
use Rattle.irig_track.specs.Splices.{risen_by}
use Rattle.irig_edit.specs.State.State.{State, frames_of}
use Rattle.irig_edit.specs.declared.changes.turn.Turn.{Turn}
use Rattle.irig_edit.specs.{Changes.Held.single_of, State.Places.Places, Changes.Room.TakesIn}
use Rattle.irig_saved.specs.declared.single.Single.{Single}
use Rattle.irig_saved.specs.declared.single.Single.TheVariants.{Splice, Toggle, Shift, SetFormat}
use Rattle.irig_saved.specs.declared.single.Single.TheVariants.{SetMark}

-- there are places for the pulses that a change inserts; of a toggle, that it may insert, and then
-- one that its way back needs
abbrev pub PutsIn : Places → State → Single → Type 0
PutsIn p s (Splice at count put) = length s.pulses + length put ≤ p.pulses + count
PutsIn p s (Toggle a b) = length s.pulses + 2 ≤ p.pulses
PutsIn p s (Shift i j d named) = Unit {0}
PutsIn p s (SetFormat kind expression) = Unit {0}
PutsIn p s (SetMark letter time) = Unit {0}

-- how many records a turn may bring, in addition to those there are: the frames that the pulses of
-- a splice have alone, and two, of the pulses on either side
abbrev pub records_for : State → Single → ℕ
records_for s (Splice at count put) = length (frames s.format put) + 2
records_for s (Toggle a b) =
    min (risen_by b s.pulses - risen_by a s.pulses + 4) (length s.pulses + 3)
records_for s (Shift i j d named) = 2
records_for s (SetFormat kind expression) =
    length (frames (record { kind = kind; expression = expression }) s.pulses)
    - length (frames_of s)
records_for s (SetMark letter time) = 0

-- there is as much room as an edit asks for: for all records that its turn may bring
pub record IsAmpleFor (p : Places) (s : State) (turn : Turn) : Type 0 where
  pub takes : TakesIn turn
  pub puts : PutsIn p s (single_of turn)
  pub records : length (frames_of s) + records_for s (single_of turn) ≤ p.records
