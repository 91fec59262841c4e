-- The files of a folder in memory. This project's own.
use Rattle.std.specs.Prelude.{◌≡◌, ℕ, List, Option, Some, None}
use Rattle.irig_folders.specs.declared.call.Call.{Call}
use Rattle.irig_folders.specs.{Log.holds_in, Log.leads_in, LogDisk.own_place}
use Rattle.irig_files.specs.Paths.{followed}

-- the bytes of the file at a name
abbrev pub holds_at : List Call → List ℕ → Option (List ℕ)
holds_at calls name =
    elim (leads_in calls name) [ None ↦ None | Some file ↦ Some (holds_in calls file).bytes ]

-- there is no link
pub no_links : (path text : List ℕ) → None ≡ Some text
    → (own_place (followed path text) ≡ own_place path)
    × (own_place (followed path text) ≡ None → own_place path ≡ None)
no_links path text link = absurd (cc link)
