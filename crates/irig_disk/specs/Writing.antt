-- A text that is being written to a new file next to its target. This project's own.
use Rattle.std.specs.Prelude.{◌≡◌, ◌≢◌, ◌⊎◌, ℕ, List, [], ◌∷◌, ◌++◌, Option, Some, None}
use Rattle.irig_disk.specs.Disk.{Disk, IsPlace, seen_under, MayLeave, LeavesOnly}
use Rattle.irig_disk.specs.{Held.Held, Put.OldIfThere, Put.OldOrNewIfThere, Put.TriesNone}
use Rattle.irig_disk.specs.{Stays.Stays, Trail.Moved, Trail.NotMoved}

-- nothing is changed since the start, at no moment
pub record IsUnchanged (start now : Disk) : Type 0 where
  pub stays : Stays start now
  pub moments : LeavesOnly start now (MayLeave start)

-- Since the start there is a new file next to the target, and nothing else is changed, at no
-- moment.
pub record IsBeside (start now : Disk) (beside target : List ℕ) (file : ℕ) : Type 0 where
  pub apart : beside ≢ target
  pub was_free : start.leads beside ≡ None
  pub leads : now.leads beside ≡ Some file
  pub alone : (n : List ℕ) → n ≢ beside → now.leads n ≢ Some file
  pub alone_left : (n : List ℕ) → n ≢ beside → now.may_lead n (Some file) → ⊥
  pub seen : (n : List ℕ) → n ≢ beside → seen_under now n ≡ seen_under start n
  pub left : (n : List ℕ) (c : Option Held) → n ≢ beside → MayLeave now n c → MayLeave start n c
  pub moments : LeavesOnly start now (λ n c. n ≢ beside → MayLeave start n c)
  pub log : now.log ≡ start.log
  pub paths : now.paths ≡ start.paths
  pub regular : now.regular file

-- and it holds this text so far, with this mode
pub record IsWriting (start now : Disk) (beside target : List ℕ) (file : ℕ) (text : List ℕ)
    (mode : ℕ) : Type 0 where
  pub holds : now.holds file ≡ record { bytes = text; mode = mode }
  pub stands : IsBeside start now beside target file

-- The new file has the target's name.
pub record IsPlaced (start now : Disk) (beside target : List ℕ) (text : Held) : Type 0 where
  pub log : now.log ≡ start.log ++ Moved target (Some text) ∷ []
  pub paths : IsPlace start target → now.paths ≡ start.paths
  pub file : ℕ
  pub leads : now.leads target ≡ Some file
  pub holds : now.holds file ≡ text
  pub kept : (h : Held) → now.may_hold file h → h ≡ text
  pub seen : (n : List ℕ) → n ≢ target → seen_under now n ≡ seen_under start n
  pub moments : LeavesOnly start now (OldOrNewIfThere start target text)
  pub left : (n : List ℕ) (c : Option Held) → MayLeave now n c
      → OldOrNewIfThere start target text n c

-- A call has failed: nothing but the new file next to the target is seen to have changed.
pub record IsStuck (start now : Disk) (beside target : List ℕ) (text : Held) : Type 0 where
  pub log : (TriesNone start now target
      × ((n : List ℕ) (c : Option Held) → MayLeave now n c → OldIfThere start target n c))
      ⊎ (now.log ≡ start.log ++ NotMoved target (Some text) ∷ [])
  pub paths : IsPlace start target → now.paths ≡ start.paths
  pub file : ℕ
  pub leads : now.leads beside ≡ Some file
  pub regular : now.regular file
  pub apart : beside ≢ target
  pub was_free : start.leads beside ≡ None
  pub seen : (n : List ℕ) → n ≢ beside → seen_under now n ≡ seen_under start n
  pub moments : LeavesOnly start now (OldOrNewIfThere start target text)
  pub left : (n : List ℕ) (c : Option Held) → MayLeave now n c
      → OldOrNewIfThere start target text n c

-- whatever the start was since which this text is being written
abbrev pub WhileWriting : {F : Type 0} → (F → Disk) → F → List ℕ → List ℕ → ℕ → ℕ
    → (Disk → List ℕ → Type 0) → Type 0
WhileWriting {F} disk now beside target file mode P = (start : F) (text : List ℕ)
    → IsWriting (disk start) (disk now) beside target file text mode → P (disk start) text
