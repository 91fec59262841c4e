-- How many pulses each edit removes and inserts: its steps hold as many. This project's own.
use Rattle.std.specs.Prelude.{◌≡◌, ◌+◌, ◌-◌, ◌*◌, ℕ, Ok, length}
use Rattle.irig_edit.specs.Changes.Delta.{turned, weight_of}
use Rattle.irig_edit.specs.Edits.Regenerated.{frames_end, rising_in}
use Rattle.irig_edit.specs.Session.Calls.Edit.{Insert, Delete, Split, Join, Force, Regen}
use Rattle.irig_edit.specs.{Edits.Changes.change_by, Session.Calls.Edit, Session.Calls.Call.Make}
use Rattle.irig_edit.specs.{Session.Machine.Steps, Session.Work.Work, State.State.State}

-- how many pulses an edit inserts
abbrev pub inserted_by : Edit → ℕ
inserted_by (Insert a b) = 1
inserted_by (Split i a b) = 2
inserted_by (Join i j) = 1
inserted_by (Force i e) = 1
inserted_by (Regen start frames moment control) = 100 * frames
inserted_by _ = 0

-- and how many it removes
abbrev pub removed_by : Edit → State → ℕ
removed_by (Delete i j) s = j + 1 - i
removed_by (Split i a b) s = 1
removed_by (Join i j) s = j + 1 - i
removed_by (Force i e) s = 1
removed_by (Regen start frames moment control) s =
    length (rising_in start (frames_end s.format start frames) s.pulses)
removed_by _ s = 0

-- the step on of an accepted edit holds what it inserts, and the step back what it removes
abbrev pub EditsHold : Type 0
EditsHold = (edit : Edit) (old new : Work) → Steps (Make edit) old (Ok tt) new
    → (weight_of (change_by edit old.state) ≡ inserted_by edit)
    × (weight_of (turned old.state (change_by edit old.state)).1 ≡ removed_by edit old.state)
