-- What one write makes of a disk. This project's own.
use Rattle.std.specs.Prelude.{◌≡◌, ◌⊎◌, ℕ, List, Option, Some, None, Result, OnOk, OnErr}
use Rattle.irig_disk.specs.Disk.{Disk, IsPlace, LeavesOnly}
use Rattle.irig_disk.specs.Put.{IsKept, IsPutLast, OldOrNewIfThere, SeenSameIfThere, TriesOne}
use Rattle.irig_disk.specs.{Held.Held, Writing.IsUnchanged}
use Rattle.irig_files.specs.Taken.{mode_at}

-- what a write that does not succeed leaves at its place
pub record FailsToPut (old new : Disk) (place : List ℕ) (held : Held) : Type 0 where
  pub seen : SeenSameIfThere old new place ⊎ IsPutLast old new place held
  pub log : TriesOne old new place held
  pub paths : IsPlace old place → new.paths ≡ old.paths

-- the file at the place is replaced whole, or not
pub record Replaces {T E : Type 0} (old new : Disk) (place : List ℕ) (held : Held)
    (result : Result T E) : Type 0 where
  pub any_moment : LeavesOnly old new (OldOrNewIfThere old place held)
  pub ok : OnOk result (IsKept old new place held)
  pub err : OnErr result (FailsToPut old new place held)

-- that, if the path leads to a place of a regular file; if it leads to anything else, no file is
-- changed
abbrev pub PutsOnce : {T E : Type 0} → Disk → Disk → Option (List ℕ) → Held → Result T E → Type 0
PutsOnce old new None held result = IsUnchanged old new
PutsOnce old new (Some place) held result = Replaces old new place held result

-- that of a text with the permissions of the file that is there, or with the usual mode
abbrev pub PutsText : {T E : Type 0} → ℕ → Disk → Disk → Option (List ℕ) → List ℕ → Result T E
    → Type 0
PutsText usual old new target text result =
    PutsOnce old new target (record { bytes = text; mode = mode_at usual old target }) result
