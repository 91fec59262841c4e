-- How a text is written to what a path leads to. This project's own.
use Rattle.std.specs.Prelude.{◌≡◌, ℕ, List, Option, None}
use Rattle.irig_disk.specs.Disk.{Disk}
use Rattle.irig_files.specs.declared.way.Way.TheVariants.{Replaced, Output, Other}
use Rattle.irig_files.specs.{Paths.LeadsTo, Taken.TakesMode, declared.way.Way.Way}

-- only what is no place of a regular file is not replaced
abbrev pub IsWay : (List ℕ → Option (List ℕ)) → (List ℕ → Type 0) → (ℕ → Type 0) → Disk → List ℕ
    → List ℕ → Way → Type 0
IsWay link_at is_other may_write disk path target (Replaced mode) =
    LeadsTo link_at is_other disk.paths path target × (is_other path → ⊥)
    × TakesMode disk may_write path mode
IsWay link_at is_other may_write disk path target Output = disk.paths path ≡ None
IsWay link_at is_other may_write disk path target Other = disk.paths path ≡ None
