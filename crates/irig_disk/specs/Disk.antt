-- What the places of a file system lead to, and what a crash may leave of them. A place is a folder
-- and a name in it: each has one name here, whatever the paths that lead to it. This project's own.
use Rattle.std.specs.Prelude.{◌≡◌, ◌⊎◌, ◌≤◌, ℕ, List, Option, Some, None}
use Rattle.irig_disk.specs.{Held.Held, Trail.Step}

-- The state of the folders. Files have numbers; a place leads to a file or to none.
pub record Disk : Type 1 where
  -- what is seen: the file that a name leads to, and what a file holds
  pub leads : List ℕ → Option ℕ
  pub holds : ℕ → Held
  -- what a crash at this moment may leave of either
  pub may_lead : List ℕ → Option ℕ → Type 0
  pub may_hold : ℕ → Held → Type 0
  -- the moment, as a number that doesn't fall, and what a crash since a moment might have left
  -- under a name
  pub moment : ℕ
  pub left_since : ℕ → List ℕ → Option Held → Type 0
  -- the place of the regular file, or of none yet, that a path leads to, if it leads to one; and
  -- which files are regular ones, and no links
  pub paths : List ℕ → Option (List ℕ)
  pub regular : ℕ → Type 0
  -- what was done to the names so far, in order
  pub log : List Step

-- what is seen under a name
abbrev pub seen_under : Disk → List ℕ → Option Held
seen_under disk name = elim (disk.leads name) [ None ↦ None | Some file ↦ Some (disk.holds file) ]

-- left under a name, by what names may lead to and files may hold
abbrev pub Left : (List ℕ → Option ℕ → Type 0) → (ℕ → Held → Type 0) → List ℕ → Option Held → Type 0
Left may_lead may_hold name None = may_lead name None
Left may_lead may_hold name (Some held) =
    (file : ℕ) × may_lead name (Some file) × may_hold file held

-- a crash at this moment may leave this under a name
abbrev pub MayLeave : Disk → List ℕ → Option Held → Type 0
MayLeave disk name c = Left disk.may_lead disk.may_hold name c

-- Time goes on: a crash since a moment might have left what it might have left before, or what it
-- may leave now.
pub record Elapses (old new : Disk) : Type 0 where
  pub later : old.moment ≤ new.moment
  pub nothing_else : (t : ℕ) (name : List ℕ) (c : Option Held) → t ≤ old.moment
      → new.left_since t name c → old.left_since t name c ⊎ MayLeave new name c
  pub keeps : (t : ℕ) (name : List ℕ) (c : Option Held) → t ≤ old.moment → old.left_since t name c
      → new.left_since t name c

-- A crash at any moment since old leaves under each name what has P.
pub record LeavesOnly (old new : Disk) (P : List ℕ → Option Held → Type 0) : Type 0 where
  pub later : old.moment ≤ new.moment
  pub each : (name : List ℕ) (c : Option Held) → new.left_since old.moment name c → P name c
  -- for a run that began earlier
  pub before : (t : ℕ) (name : List ℕ) (c : Option Held) → t ≤ old.moment → new.left_since t name c
      → old.left_since t name c ⊎ P name c

-- a path leads to this place, so no link is there
abbrev pub IsPlace : Disk → List ℕ → Type 0
IsPlace disk place = (path : List ℕ) × (disk.paths path ≡ Some place)
