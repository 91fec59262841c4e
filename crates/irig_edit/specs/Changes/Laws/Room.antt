-- Room in some places is room in those places and more. This project's own.
use Rattle.std.proofs.Common.{ℕ, arith}
use Rattle.irig_edit.specs.State.Places.{HoldsState, IsWithin, Places}
use Rattle.irig_edit.specs.Changes.Room.{HasRoomFor, passing}
use Rattle.irig_edit.specs.declared.changes.turn.Turn.{Turn}
use Rattle.irig_edit.specs.{Changes.Held.single_of, Changes.Single.turned_single, State.State.State}

-- more places hold a state too
pub holds_wider : (a b : Places) (n : ℕ) (s : State) → IsWithin a b → HoldsState a n s
    → HoldsState b n s
holds_wider a b n s within holds = record {
  pulses = omega (arith, within.pulses, holds.pulses);
  records = omega (arith, within.records, holds.records);
}

-- room in some places is room in those and more
pub HasRoomFor-wider : (a b : Places) (s : State) (x : Turn) → IsWithin a b → HasRoomFor a s x
    → HasRoomFor b s x
HasRoomFor-wider a b s x within room = record {
  takes = room.takes;
  before = holds_wider a b (passing (single_of x)) s within room.before;
  after = holds_wider a b (passing (single_of x)) (turned_single s (single_of x)).0 within
      room.after;
}
