-- What a session works on: its state, and the steps of its journal. And how calls move the steps.
-- This project's own.
use Rattle.std.specs.Prelude.{ℕ, List, [], ◌∷◌, Option, Some, None, length, option_map}
use Rattle.irig_journal.specs.History.{History, Step, machine, step, stepped_back, stepped_forward}
use Rattle.irig_journal.specs.Journal.{Steps, history_of}
use Rattle.irig_journal.specs.Joining.{beyond, changes_of, farthest, joined_beyond}
use Rattle.irig_journal.specs.{declared.opening.Opening.Opening, Groups.Grouped, Groups.over}
use Rattle.irig_journal.specs.{Machine.Kept, Openings.floor_at, Turns.left_by}
use Rattle.irig_saved.specs.declared.change.Change.{Change}
use Rattle.irig_edit.specs.{Changes.Delta.gathered, Changes.Delta.turned, Changes.Held.delta_of}
use Rattle.irig_edit.specs.{State.State.State, declared.changes.turn.Turn.Turn}

-- a state with its cursor, the number of a pulse from 1, or 0 before the first; the steps that lead
-- back and on from it, the nearest first; and where the open group was begun
pub record Work : Type 0 where
  pub state : State
  pub cursor : ℕ
  pub past : List (Step Change)
  pub future : List (Step Change)
  pub floor : Option Opening

-- a state and its steps, over the begin of a group
abbrev pub work_over : Option Opening → History State Change → Work
work_over floor h = record {
  state = h.state;
  cursor = h.cursor;
  past = h.past;
  future = h.future;
  floor = floor;
}

-- a state and its cursor with a journal
abbrev pub work_at : State → ℕ → Steps Turn → Work
work_at s cursor j = work_over j.floor (history_of delta_of s cursor j)

-- the state and its steps
abbrev pub history_in : Work → History State Change
history_in w =
    record { state = w.state; cursor = w.cursor; past = w.past; future = w.future }

-- the machine that keeps each former state whole, with its floor
abbrev pub grouped_in : Work → Grouped (Kept State)
grouped_in w =
    over (option_map (floor_at turned w.state w.past) w.floor) (machine turned (history_in w))

-- at another cursor
abbrev pub at_cursor : ℕ → Work → Work
at_cursor i w = record {
  state = w.state;
  cursor = i;
  past = w.past;
  future = w.future;
  floor = w.floor;
}

-- with another begin of a group, or none
abbrev pub with_floor : Option Opening → Work → Work
with_floor floor w = work_over floor (history_in w)

-- after a change: one more step leads back, and none on
abbrev pub made : Change → ℕ → Work → Work
made d cursor w = record {
  state = (turned w.state d).0;
  cursor = cursor;
  past = step (turned w.state d).1 w.cursor ∷ w.past;
  future = [];
  floor = w.floor;
}

-- after a step back; none if there is none
abbrev pub gone_back : Work → Option Work
gone_back w = option_map (work_over w.floor) (stepped_back turned (history_in w))

-- after a step on; none if there is none
abbrev pub gone_on : Work → Option Work
gone_on w = option_map (work_over w.floor) (stepped_forward turned (history_in w))

-- a group is begun here
abbrev pub floored_here : Work → Option Work
floored_here w = Some (with_floor (Some (record { steps = length w.past; cursor = w.cursor })) w)

-- the steps since the begin are one step; none if no group is open
abbrev pub joined_since : Option Opening → Work → Option Work
joined_since None w = None
joined_since (Some o) w = Some (record {
  state = w.state;
  cursor = w.cursor;
  past = joined_beyond gathered o.steps w.past;
  future = w.future;
  floor = None;
})

-- back at the begin for good; none if no group is open
abbrev pub dropped_since : Option Opening → Work → Option Work
dropped_since None w = None
dropped_since (Some o) w = Some (record {
  state = left_by turned w.state (changes_of (beyond o.steps w.past));
  cursor = o.cursor;
  past = farthest o.steps w.past;
  future = [];
  floor = None;
})
