-- Whether two paths lead to one file, and a path at which nothing is written. This project's own.
use Rattle.std.specs.Prelude.{◌≡◌, ◌≢◌, ℕ, Bool, List, Option, None, Some, IsTrue, option_map}
use Rattle.irig_disk.specs.{Disk.Disk, Disk.MayLeave, Held.Held}

-- the id is that of the file at the place that a path leads to, if it leads to one
abbrev pub HasId : Disk → (ℕ → ℕ × ℕ) → List ℕ → Option (ℕ × ℕ) → Type 0
HasId disk id_of path id =
    (place : List ℕ) → disk.paths path ≡ Some place → id ≡ option_map id_of (disk.leads place)

-- one file is at both places
abbrev pub HaveOneFile : Disk → List ℕ → List ℕ → Type 0
HaveOneFile disk p q = (file : ℕ) × (disk.leads p ≡ Some file) × (disk.leads q ≡ Some file)

-- two paths lead to places that have one file, if they lead to places
abbrev pub LeadToOneFile : Disk → List ℕ → List ℕ → Type 0
LeadToOneFile disk one other =
    (p q : List ℕ) → disk.paths one ≡ Some p → disk.paths other ≡ Some q → HaveOneFile disk p q

-- two paths do not lead to places that have one file
abbrev pub AreApart : Disk → List ℕ → List ℕ → Type 0
AreApart disk one other =
    (p q : List ℕ) → disk.paths one ≡ Some p → disk.paths other ≡ Some q → HaveOneFile disk p q → ⊥

-- If a file was at the place that a path leads to, a crash at any moment since old leaves there
-- what it might have left before.
abbrev pub StaysAt : Disk → Disk → List ℕ → Type 0
StaysAt old new path = (place : List ℕ) (c : Option Held) → old.paths path ≡ Some place
    → old.leads place ≢ None → new.left_since old.moment place c → MayLeave old place c

-- so it was from one state to another, if the contracts give it
abbrev pub Spares : Bool → Disk → Disk → List ℕ → Type 0
Spares told old new path = IsTrue told → StaysAt old new path
