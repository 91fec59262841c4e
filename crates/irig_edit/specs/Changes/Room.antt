-- The room that a turn of a change needs, and the turn of the change that leads back. This
-- project's own.
use Rattle.std.specs.Prelude.{ℕ, ◌≤◌}
use Rattle.irig_edit.specs.Changes.Single.{goes, turned_single}
use Rattle.irig_edit.specs.{Changes.Held.single_of, State.Places.HoldsState, State.Places.Places}
use Rattle.irig_edit.specs.{State.State.State, declared.changes.turn.Turn.Turn}
use Rattle.irig_saved.specs.declared.single.Single.{Single}
use Rattle.irig_saved.specs.declared.single.Single.TheVariants.{Splice, Toggle, Shift, SetFormat}
use Rattle.irig_saved.specs.declared.single.Single.TheVariants.{SetMark}

-- there are places for the pulses that go
abbrev pub TakesIn : Turn → Type 0
TakesIn turn = goes (single_of turn) ≤ turn.taken.capacity

-- how many places for pulses a turn needs on its way, in addition
abbrev pub passing : Single → ℕ
passing (Toggle a b) = 1
passing (Splice at count put) = 0
passing (Shift i j d named) = 0
passing (SetFormat kind expression) = 0
passing (SetMark letter time) = 0

-- there is room for a turn of a single change, and for a turn of the one that leads back: places
-- for the pulses that go, for the state before and for the state after
pub record HasRoomFor (p : Places) (s : State) (turn : Turn) : Type 0 where
  pub takes : TakesIn turn
  pub before : HoldsState p (passing (single_of turn)) s
  pub after : HoldsState p (passing (single_of turn)) (turned_single s (single_of turn)).0
