-- The folder that a log of calls makes, the newest call first. This project's own.
use Rattle.std.specs.Prelude.{ℕ, List, [], ◌∷◌, ◌++◌, length, Option, Some, None, cond}
use Rattle.std.specs.{Path.path_file_name, Str.bytes_eq}
use Rattle.irig_disk.specs.Trail.{Step, Moved, Synced}
use Rattle.irig_folders.specs.declared.call.Call.TheVariants.{Make, Append, TakeMode, SyncFile}
use Rattle.irig_folders.specs.declared.call.Call.TheVariants.{Rename, Remove, SyncNames}
use Rattle.irig_disk.specs.Disk.{Disk}
use Rattle.irig_folders.specs.LogLeft.{may_lead_in, may_hold_in, left_in}
use Rattle.irig_folders.specs.{Log.leads_in, Log.holds_in, declared.call.Call.Call}

-- what was done to the names
abbrev pub steps_in : List Call → List Step
steps_in [] = []
steps_in (Rename «from» to ∷ calls) = steps_in calls ++ Moved to.items
    (elim (leads_in calls «from».items) [ None ↦ None | Some file ↦ Some (holds_in calls file) ]) ∷
    []
steps_in (SyncNames front ∷ calls) =
    steps_in calls ++ Synced (length (SyncNames front ∷ calls)) ∷ []
steps_in (Make name mode ∷ calls) = steps_in calls
steps_in (Remove name ∷ calls) = steps_in calls
steps_in (Append file bytes ∷ calls) = steps_in calls
steps_in (TakeMode file mode ∷ calls) = steps_in calls
steps_in (SyncFile file ∷ calls) = steps_in calls

-- a name is its own place, and no other path leads to one
abbrev pub own_place_of : List ℕ → Option (List ℕ) → Option (List ℕ)
own_place_of path None = None
own_place_of path (Some name) = cond (bytes_eq name path) (Some path) None

abbrev pub own_place : List ℕ → Option (List ℕ)
own_place path = own_place_of path (path_file_name path)

-- the folder that a log makes
abbrev pub disk_of : List Call → Disk
disk_of calls = record {
  leads = leads_in calls;
  holds = holds_in calls;
  may_lead = may_lead_in calls;
  may_hold = may_hold_in calls;
  moment = length calls;
  left_since = left_in calls;
  paths = own_place;
  regular = λ _. Unit {0};
  log = steps_in calls;
}
