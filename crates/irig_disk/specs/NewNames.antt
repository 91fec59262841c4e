-- The names that are tried for a new file. This project's own.
use Rattle.std.specs.Prelude.{◌≡◌, ◌≢◌, ◌<◌, ◌++◌, ℕ, List, None}
use Rattle.std.specs.Fmt.{decimal}
use Rattle.irig_disk.specs.{Disk.Disk, Name.IsName}

-- the name of a new file, if this many others were tried before it
abbrev pub name_after : List ℕ → ℕ → List ℕ
name_after stem number = stem ++ decimal number

-- a name is the stem with a number below this one
abbrev pub IsNameAfter : List ℕ → ℕ → List ℕ → Type 0
IsNameAfter stem count name = (k : ℕ) × (k < count) × (name ≡ name_after stem k)

-- each of the first names for a new file leads to a file, or is none, or the target's own
abbrev pub AllTaken : Disk → (List ℕ → List ℕ) → List ℕ → List ℕ → ℕ → Type 0
AllTaken disk place stem target count = (k : ℕ) → k < count → IsName (name_after stem k)
    → name_after stem k ≢ target → disk.leads (place (name_after stem k)) ≢ None
