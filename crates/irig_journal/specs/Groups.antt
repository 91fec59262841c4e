-- The machine of whole states with a floor, the begin of the open group. This project's own.
use Rattle.std.specs.Prelude.{ℕ, ◌-◌, Bool, false, List, [], drop, length, nat_le, Option, Some}
use Rattle.std.specs.Prelude.{None, option_map, if◌then◌else◌}
use Rattle.irig_journal.specs.Machine.{Machine, recorded, undone, redone}

-- the length of the past and the present when a group was begun
pub record Floor (K : Type 0) : Type 0 where
  pub height : ℕ
  pub present : K

-- the machine, and the floor of the group that is open
pub record Grouped (K : Type 0) : Type 0 where
  pub machine : Machine K
  pub floor : Option (Floor K)

module _ {K : Type 0} where
  -- a machine over this floor
  abbrev pub over : Option (Floor K) → Machine K → Grouped K
  over floor m = record { machine = m; floor = floor }

  -- the past is no longer than the floor's length
  abbrev pub is_at_floor : Option (Floor K) → List K → Bool
  is_at_floor None past = false
  is_at_floor (Some floor) past = nat_le (length past) floor.height

  -- after an edit
  abbrev pub recorded_over : Grouped K → K → Grouped K
  recorded_over g after = over g.floor (recorded g.machine after)

  -- after an undo; none if the past is empty, or no longer than the floor's length
  abbrev pub undone_over : Grouped K → Option (Grouped K)
  undone_over g = if is_at_floor g.floor g.machine.past
      then None else option_map (over g.floor) (undone g.machine)

  -- after a redo; none if the future is empty
  abbrev pub redone_over : Grouped K → Option (Grouped K)
  redone_over g = option_map (over g.floor) (redone g.machine)

  -- a floor at the present; none if there is one
  abbrev pub floored : Option (Floor K) → Machine K → Option (Grouped K)
  floored (Some floor) m = None
  floored None m = Some (over (Some (record { height = length m.past; present = m.present })) m)

  -- after a begin: the floor is here; none if a group is open
  abbrev pub begun : Grouped K → Option (Grouped K)
  begun g = floored g.floor g.machine

  -- of the states after the floor's length the oldest is left; none if there is no floor
  abbrev pub joined_over : Option (Floor K) → Machine K → Option (Grouped K)
  joined_over None m = None
  joined_over (Some floor) m = Some (over None (record {
    past = drop (length m.past - floor.height - 1) m.past;
    present = m.present;
    future = m.future;
  }))

  -- after an end; none if no group is open
  abbrev pub ended : Grouped K → Option (Grouped K)
  ended g = joined_over g.floor g.machine

  -- past and present are those of the floor, and nothing is left to redo; none if there is no floor
  abbrev pub dropped_over : Option (Floor K) → Machine K → Option (Grouped K)
  dropped_over None m = None
  dropped_over (Some floor) m = Some (over None (record {
    past = drop (length m.past - floor.height) m.past;
    present = floor.present;
    future = [];
  }))

  -- after an abort; none if no group is open
  abbrev pub aborted : Grouped K → Option (Grouped K)
  aborted g = dropped_over g.floor g.machine
