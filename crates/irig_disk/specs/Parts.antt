-- What single calls make of a text that is being written. This project's own.
use Rattle.std.specs.Prelude.{◌≢◌, ℕ, List, ◌++◌, take, None, Result, OnOk, IfErr, IsErrOf}
use Rattle.irig_disk.specs.Writing.{IsUnchanged, IsWriting, IsPlaced, IsStuck, WhileWriting}
use Rattle.irig_disk.specs.{Disk.Disk, Disk.LeavesOnly, Held.Held, Name.IsName, Put.OldOrNewIfThere}
use Rattle.irig_disk.specs.{Put.IsKept, Faults.AfterFault, declared.fault.PutFault.PutFault}
use Rattle.irig_disk.specs.{declared.fault.PutFault.TheVariants.NamesTaken}

-- At this name no new file is made: it leads to a file, or is none, or the target's own.
pub record IsPassed (start now : Disk) (place : List ℕ → List ℕ) (name target : List ℕ)
    : Type 0 where
  pub same : IsUnchanged start now
  pub taken : IsName name → name ≢ target → start.leads (place name) ≢ None

-- Whatever text was being written to the file, it still is, with these bytes more.
pub record Adds {F : Type 0} (disk : F → Disk) (old new : F) (beside : List ℕ) (file : ℕ)
    (bytes : List ℕ) : Type 0 where
  pub still : (target : List ℕ) (mode : ℕ) → WhileWriting disk old beside target file mode
      (λ start text. IsWriting start (disk new) beside target file (text ++ bytes) mode)

-- Whatever text was being written to the file, it still is, with the first n of these bytes more,
-- for some n.
pub record AddsSome {F : Type 0} (disk : F → Disk) (old new : F) (beside : List ℕ) (file : ℕ)
    (bytes : List ℕ) : Type 0 where
  pub still : (target : List ℕ) (mode : ℕ) → WhileWriting disk old beside target file mode
      (λ start text. (n : ℕ) × IsWriting start (disk new) beside target file
      (text ++ take n bytes) mode)

-- Whatever text was being written to the file, some text still is: a call has failed.
pub record Spoils {F : Type 0} (disk : F → Disk) (old new : F) (beside : List ℕ) (file : ℕ)
    : Type 0 where
  pub still : (target : List ℕ) (mode : ℕ) → WhileWriting disk old beside target file mode
      (λ start text. (some : List ℕ) × IsWriting start (disk new) beside target file some mode)

-- whatever the start was since which a text has come to its place
-- of a name in a folder with these places
abbrev pub WhilePlaced : {F : Type 0} → (F → Disk) → F → (List ℕ → List ℕ)
    → (Disk → List ℕ → Held → Type 0) → Type 0
WhilePlaced {F} disk now place P = (start : F) (beside name : List ℕ) (text : Held) → IsName name
    → IsPlaced (disk start) (disk now) beside (place name) text → P (disk start) (place name) text

-- whatever the start was since which a text has not come to its place
abbrev pub WhileStuck : {F : Type 0} → (F → Disk) → F → List ℕ
    → (Disk → List ℕ → Held → Type 0) → Type 0
WhileStuck {F} disk now beside P = (start : F) (target : List ℕ) (text : Held)
    → IsStuck (disk start) (disk now) beside target text → P (disk start) target text

-- what a write answers and leaves that has begun
pub record ComesTo {T X : Type 0} (start now : Disk) (target : List ℕ) (text : Held)
    (result : Result T (PutFault X)) : Type 0 where
  pub any_moment : LeavesOnly start now (OldOrNewIfThere start target text)
  pub ok : OnOk result (IsKept start now target text)
  pub err : IfErr result (AfterFault start now target text)
  pub untaken : IsErrOf result NamesTaken → ⊥
