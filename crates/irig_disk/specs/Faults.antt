-- What a write that fails leaves, by its fault. This project's own.
use Rattle.std.specs.Prelude.{◌≡◌, ℕ, List, Option, Some, None, Result, Ok, Err}
use Rattle.irig_disk.specs.Put.{TriesOne, SeenSame, SeenSameIfThere, IsPutLast}
use Rattle.irig_disk.specs.declared.fault.PutFault.{PutFault}
use Rattle.irig_disk.specs.declared.fault.PutFault.TheVariants.{Memory, NamesTaken, Failed}
use Rattle.irig_disk.specs.declared.fault.PutFault.TheVariants.{LeftBehind, Remains, NotKept}
use Rattle.irig_disk.specs.{Disk.Disk, Disk.IsPlace, Held.Held, Writing.IsUnchanged}

-- what a fault leaves to be seen
abbrev pub SeenAfter : {X : Type 0} → Disk → Disk → List ℕ → Held → PutFault X → Type 0
SeenAfter old new target text Memory = SeenSame old new
SeenAfter old new target text NamesTaken = SeenSame old new
SeenAfter old new target text (Failed _) = SeenSame old new
SeenAfter old new target text (LeftBehind _ _) = SeenSameIfThere old new target
SeenAfter old new target text (Remains _) = SeenSameIfThere old new target
SeenAfter old new target text (NotKept _) = IsPutLast old new target text

-- what a fault leaves
pub record AfterFault {X : Type 0} (old new : Disk) (target : List ℕ) (text : Held)
    (fault : PutFault X) : Type 0 where
  pub seen : SeenAfter old new target text fault
  pub log : TriesOne old new target text
  pub paths : IsPlace old target → new.paths ≡ old.paths

-- what a fault leaves (None: memory ran out), after the new file was to be removed
abbrev pub left_by : {T X : Type 0} → Option X → Result T X → PutFault X
left_by (Some fault) (Ok _) = Failed fault
left_by (Some fault) (Err other) = LeftBehind fault other
left_by None (Ok _) = Memory
left_by None (Err other) = Remains other

-- what a write that has not begun leaves
abbrev pub NotBegun : {X : Type 0} → Disk → Disk → PutFault X → Type 0
NotBegun old new Memory = IsUnchanged old new
NotBegun old new NamesTaken = IsUnchanged old new
NotBegun old new (Failed _) = IsUnchanged old new
NotBegun old new (LeftBehind _ _) = ⊥
NotBegun old new (Remains _) = ⊥
NotBegun old new (NotKept _) = ⊥

-- what a write that has begun and has not succeeded leaves to be seen
abbrev pub SeenUnfinished : {X : Type 0} → Disk → Disk → List ℕ → Held → PutFault X → Type 0
SeenUnfinished old new target text Memory = ⊥
SeenUnfinished old new target text NamesTaken = ⊥
SeenUnfinished old new target text (Failed _) = SeenSame old new
SeenUnfinished old new target text (LeftBehind _ _) = SeenSameIfThere old new target
SeenUnfinished old new target text (Remains _) = ⊥
SeenUnfinished old new target text (NotKept _) = IsPutLast old new target text

-- and what it leaves
pub record NotFinished {X : Type 0} (old new : Disk) (target : List ℕ) (text : Held)
    (fault : PutFault X) : Type 0 where
  pub seen : SeenUnfinished old new target text fault
  pub log : TriesOne old new target text
  pub paths : IsPlace old target → new.paths ≡ old.paths
