-- What each single call on a file, or on all names, makes of a folder. This project's own.
use Rattle.std.specs.Prelude.{◌≡◌, ◌≢◌, ◌⊎◌, ℕ, List, [], ◌∷◌, ◌++◌, take, Option, Some, None, Bool}
use Rattle.std.specs.Prelude.{if◌then◌else◌}
use Rattle.irig_disk.specs.Stays.{OtherNamesStay, NamesStay, OtherFilesStay, FilesStay, Stays}
use Rattle.irig_disk.specs.{Disk.Disk, Held.Held, Name.IsName, Trail.Synced}

-- the mode of a hidden file: its owner alone may read and write it
abbrev pub owner_only : ℕ
owner_only = 0o600

-- the mode with which a file is made
abbrev pub mode_made : ℕ → Bool → ℕ
mode_made usual hidden = if hidden then owner_only else usual

-- A new file, empty, under a name that was free. Until a sync of the folder a crash may leave the
-- name as it was before; until a sync of the file it may leave anything in it.
pub record Made (old new : Disk) (name : List ℕ) (file mode : ℕ) : Type 0 where
  pub was_free : old.leads name ≡ None
  pub is_new : (n : List ℕ) → old.leads n ≢ Some file
  pub is_new_left : (n : List ℕ) → old.may_lead n (Some file) → ⊥
  pub leads : new.leads name ≡ Some file
  pub holds : new.holds file ≡ record { bytes = []; mode = mode }
  pub left : (x : Option ℕ) → new.may_lead name x → old.may_lead name x ⊎ (x ≡ Some file)
  pub paths : new.paths ≡ old.paths
  pub regular : new.regular file
  pub log : new.log ≡ old.log
  pub names : OtherNamesStay old new name name
  pub files : OtherFilesStay old new file

-- nothing is changed, since the name leads to a file
pub record IsTaken (old new : Disk) (name : List ℕ) : Type 0 where
  pub taken : old.leads name ≢ None
  pub stays : Stays old new

-- the file holds this from now on; until a sync of it, a crash may leave anything in it
pub record Changed (old new : Disk) (file : ℕ) (held : Held) : Type 0 where
  pub holds : new.holds file ≡ held
  pub names : NamesStay old new
  pub files : OtherFilesStay old new file

-- the bytes came to the file's end
abbrev pub Wrote : Disk → Disk → ℕ → List ℕ → Type 0
Wrote old new file bytes = Changed old new file
    (record { bytes = (old.holds file).bytes ++ bytes; mode = (old.holds file).mode })

-- a part of the bytes may have come to its end
abbrev pub WroteSome : Disk → Disk → ℕ → List ℕ → Type 0
WroteSome old new file bytes = (n : ℕ) × Changed old new file
    (record { bytes = (old.holds file).bytes ++ take n bytes; mode = (old.holds file).mode })

-- the file has this mode
abbrev pub TookMode : Disk → Disk → ℕ → ℕ → Type 0
TookMode old new file mode =
    Changed old new file (record { bytes = (old.holds file).bytes; mode = mode })

-- a crash leaves the file as it is seen
pub record SyncedFile (old new : Disk) (file : ℕ) : Type 0 where
  pub left : (h : Held) → new.may_hold file h → h ≡ new.holds file
  pub stays : Stays old new

-- A call on a file that failed: nothing is said of what the file holds from then on.
pub record MaySpoil (old new : Disk) (file : ℕ) : Type 0 where
  pub names : NamesStay old new
  pub files : OtherFilesStay old new file

-- a crash leaves each name in the folder, with these places, as it is seen
pub record SyncedNames (old new : Disk) (place : List ℕ → List ℕ) : Type 0 where
  pub kept : (n : List ℕ) → IsName n → (x : Option ℕ) → new.may_lead (place n) x
      → x ≡ new.leads (place n)
  pub seen : (n : List ℕ) → new.leads n ≡ old.leads n
  pub left : (n : List ℕ) (x : Option ℕ) → new.may_lead n x → old.may_lead n x
  pub files : FilesStay old new
  pub paths : new.paths ≡ old.paths
  pub log : new.log ≡ old.log ++ Synced new.moment ∷ []
