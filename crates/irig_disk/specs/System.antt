-- A folder. Nothing is known of it.
use Rattle.std.specs.Prelude.{ℕ, List, [], Option, Some, None, ◌≤◌}
use Rattle.irig_disk.specs.{Disk.Disk, Disk.MayLeave, Held.Held}

-- a state, because one is asked for: no clause speaks of it
abbrev pub untold : Disk
untold = record {
  leads = λ _. None;
  holds = λ _. record { bytes = []; mode = 0 };
  may_lead =
      λ _ _. ⊥;
  may_hold = λ _ _. ⊥;
  moment = 0;
  left_since = λ _ _ _. ⊥;
  paths = λ _. None;
  regular = λ _. ⊥;
  log = [];
}

pub untold_now : (t : ℕ) (name : List ℕ) (c : Option Held) → t ≤ untold.moment
    → MayLeave untold name c → untold.left_since t name c
untold_now t name None le left = left
untold_now t name (Some held) le left = left.1
