-- Folders in memory, and where paths lead in them. This project's own.
use Rattle.std.specs.Prelude.{◌≡◌, ◌/◌, ◌%◌, ℕ, List, Option, Some, None}
use Rattle.irig_disk.specs.Disk.{Disk}
use Rattle.irig_folders.specs.declared.layout.FolderPath.{FolderPath}
use Rattle.irig_folders.specs.declared.layout.{Layout.Layout, Other.Other}
use Rattle.irig_folders.specs.Places.{other_in, over, place_in, at_place}
use Rattle.irig_folders.specs.Links.{ends}

-- a place, if no other file is there
abbrev pub free_place : List ℕ → Option Other → Option (List ℕ)
free_place place None = Some place
free_place place (Some other) = None

abbrev pub place_at : (List ℕ → Option Other) → Option (List ℕ) → Option (List ℕ)
place_at others None = None
place_at others (Some place) = free_place place (others place)

abbrev pub path_by : List FolderPath → (List ℕ → Option Other) → Option (List ℕ) → Option (List ℕ)
path_by folders others None = None
path_by folders others (Some end) = place_at others (place_in folders end)

-- the place of the regular file, or of none yet, that a path leads to
abbrev pub path_to : Layout → (List ℕ → Option Other) → List ℕ → Option (List ℕ)
path_to w others path = path_by w.folders.items others (ends w others path)

abbrev pub IsOdd : Option Other → Type 0
IsOdd None = ⊥
IsOdd (Some other) = Unit {0}

abbrev pub IsOtherEnd : List FolderPath → (List ℕ → Option Other) → Option (List ℕ) → Type 0
IsOtherEnd folders others None = Unit {0}
IsOtherEnd folders others (Some end) = IsOdd (at_place others (place_in folders end))

-- a path leads to what is no regular file, or nowhere
abbrev pub IsOther : Layout → (List ℕ → Option Other) → List ℕ → Type 0
IsOther w others path = IsOtherEnd w.folders.items others (ends w others path)

-- the mode lets a file's owner write it
abbrev pub IsWritable : ℕ → Type 0
IsWritable mode = mode / 0o200 % 2 ≡ 1

-- what the links from a path lead to: the file there, if there is one
pub record IsFound (w : Layout) (leads : List ℕ → Option ℕ) (path : List ℕ) (found : Option ℕ)
    : Type 0 where
  pub end : List ℕ
  pub place : List ℕ
  pub ended : ends w (over w leads) path ≡ Some end
  pub placed : place_in w.folders.items end ≡ Some place
  pub there : leads place ≡ found

-- the folders that a log and a layout make
abbrev pub tree_disk : Layout → Disk → Disk
tree_disk w log = record {
  leads = log.leads;
  holds = log.holds;
  may_lead = log.may_lead;
  may_hold = log.may_hold;
  moment = log.moment;
  left_since = log.left_since;
  paths = path_to w (over w log.leads);
  regular = λ i. other_in w.others.items i ≡ None;
  log = log.log;
}
