-- The files of folders in memory: what each holds, and which one the answers go to. This project's
-- own.
use Rattle.std.specs.Prelude.{ℕ, List, [], ◌∷◌, Option, Some, None, cond, option_map}
use Rattle.irig_folders.specs.Log.{holds_in, leads_in}
use Rattle.irig_folders.specs.{Links.ends, Places.over, Places.place_in}
use Rattle.irig_folders.specs.declared.call.Call.{Call}
use Rattle.irig_folders.specs.declared.layout.FolderPath.{FolderPath}
use Rattle.irig_folders.specs.declared.layout.{Layout.Layout, Other.Other}

-- the number of the file that the program's answers go to, if they go to one
abbrev pub output_in : List Other → Option ℕ
output_in [] = None
output_in (o ∷ os) = cond o.takes_answers (Some o.number) (output_in os)

-- the file at a place, if there is one
abbrev pub file_at : (List ℕ → Option ℕ) → Option (List ℕ) → Option ℕ
file_at leads None = None
file_at leads (Some place) = leads place

-- the file at a path without links
abbrev pub file_by : List FolderPath → (List ℕ → Option ℕ) → Option (List ℕ) → Option ℕ
file_by folders leads None = None
file_by folders leads (Some end) = file_at leads (place_in folders end)

-- the file where the links lead from a path
abbrev pub file_to : Layout → (List ℕ → Option ℕ) → List ℕ → Option ℕ
file_to w leads path = file_by w.folders.items leads (ends w (over w leads) path)

-- what it holds
abbrev pub held_at : Layout → List Call → List ℕ → Option (List ℕ)
held_at w calls path =
    option_map (λ file. (holds_in calls file).bytes) (file_to w (leads_in calls) path)
