-- Which regular files are replaced, and the mode that the new one takes. This project's own.
use Rattle.std.specs.Prelude.{◌≡◌, ℕ, List, Option, Some, None, bit_and}
use Rattle.irig_disk.specs.{Disk.Disk, Disk.seen_under, Held.Held}

-- a path leads to this file, if it leads to a place
abbrev pub IsFileAt : Disk → List ℕ → ℕ → Type 0
IsFileAt disk path file =
    (place : List ℕ) → disk.paths path ≡ Some place → disk.leads place ≡ Some file

-- no file is at the place that a path leads to
abbrev pub IsFree : Disk → List ℕ → Type 0
IsFree disk path = (place : List ℕ) → disk.paths path ≡ Some place → disk.leads place ≡ None

-- a file is a regular one, and has this mode
abbrev pub HasMode : Disk → ℕ → ℕ → Type 0
HasMode disk file mode = disk.regular file × ((disk.holds file).mode ≡ mode)

-- who may read, write and run a file of this mode: without the bits that let it run as its owner or
-- group (setuid, setgid), and without the sticky bit
abbrev pub permissions : ℕ → ℕ
permissions mode = bit_and mode 0o777

-- a file is a regular one, and these are the permissions in its mode
abbrev pub HasPermissions : Disk → ℕ → ℕ → Type 0
HasPermissions disk file mode =
    disk.regular file × (permissions (disk.holds file).mode ≡ mode)

-- the file that a path leads to may be written, is a regular one, and has these permissions
pub record MayTake (disk : Disk) (may_write : ℕ → Type 0) (path : List ℕ) (mode : ℕ) : Type 0
  where
    pub file : ℕ
    pub there : IsFileAt disk path file
    pub allowed : may_write file
    pub has : HasPermissions disk file mode

-- a new file takes the permissions of the one that is there, which may be written; or none is there
abbrev pub TakesMode : Disk → (ℕ → Type 0) → List ℕ → Option ℕ → Type 0
TakesMode disk may_write path None = IsFree disk path
TakesMode disk may_write path (Some mode) = MayTake disk may_write path mode

-- the permissions of what is seen; the usual mode, if nothing is
abbrev pub mode_of : ℕ → Option Held → ℕ
mode_of usual None = usual
mode_of usual (Some held) = permissions held.mode

-- the mode of a new file at a place: the permissions of the file that is there, or the usual one
abbrev pub mode_at : ℕ → Disk → Option (List ℕ) → ℕ
mode_at usual disk None = usual
mode_at usual disk (Some place) = mode_of usual (seen_under disk place)

-- a file of this kind is at a place
abbrev pub HasFile : (ℕ → Type 0) → Disk → Option (List ℕ) → Type 0
HasFile is_such disk None = ⊥
HasFile is_such disk (Some place) = (file : ℕ) × (disk.leads place ≡ Some file) × is_such file

-- if such a file is where a path leads, no write is tried, and such a file is still there
abbrev pub StaysBarred : (ℕ → Type 0) → (ℕ → Type 0) → Disk → Disk → List ℕ → Type 0
StaysBarred barred barred_new old new path = HasFile barred old (old.paths path)
    → (new.log ≡ old.log) × HasFile barred_new new (new.paths path)

-- it must not be written
abbrev pub IsLocked : (ℕ → Type 0) → ℕ → Type 0
IsLocked may_write file = may_write file → ⊥
