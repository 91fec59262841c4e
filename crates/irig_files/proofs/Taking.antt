-- The mode that a new file takes.
use Rattle.std.proofs.Common.{◌≡◌, ◌∙◌, sym, ap, refl, subst, ℕ, List, Option, Some, None, Bool, false, option_map}
use Rattle.std.specs.Prelude.{IsErr, IsOk, MatchOption, OnErr, OnOk, Result}
use Rattle.irig_disk.specs.{Disk.Disk, Held.Held, Put.held, Put.last_mode}
use Rattle.irig_files.specs.Once.{PutsOnce, PutsText, Replaces}
use Rattle.irig_files.proofs.Passed.{puts_once}
use Rattle.irig_files.specs.Apart.{HasId}
use Rattle.irig_files.specs.Taken.{HasFile, IsFree, IsLocked, MayTake, TakesMode, mode_at, mode_of}

no_file : (id_of : ℕ → ℕ × ℕ) (found : Option ℕ) → None ≡ option_map id_of found → found ≡ None
no_file id_of None is = refl
no_file id_of (Some file) is = absurd (cc is)

-- what has no id is not there
pub free_by_id : (disk : Disk) (id_of : ℕ → ℕ × ℕ) (path : List ℕ) → HasId disk id_of path None → IsFree disk path
free_by_id disk id_of path has place at = no_file id_of (disk.leads place) (has place at)

-- the file where the links lead is that of the path
pub takes_there : (disk : Disk) (may_write : ℕ → Type 0) (path target : List ℕ) (is_there : Bool) (mode : Option ℕ) → disk.paths target ≡ disk.paths path
    → (is_there ≡ false → IsFree disk path) → MatchOption mode (is_there ≡ false) (MayTake disk may_write target) → TakesMode disk may_write path mode
takes_there disk may_write path target is_there None same free takes = free takes
takes_there disk may_write path target is_there (Some mode) same free takes = record {
  file = takes.file;
  there = λ place at. takes.there place (same ∙ at);
  allowed = takes.allowed;
  has = takes.has;
}

seen_mode : (usual : ℕ) (disk : Disk) (place : List ℕ) (found : Option ℕ) → disk.leads place ≡ found
    → mode_at usual disk (Some place) ≡ mode_of usual (elim found as (λ _. Option Held) [ None ↦ None | Some file ↦ Some (disk.holds file) ])
seen_mode usual disk place found at =
    ap (λ x. mode_of usual (elim x as (λ _. Option Held) [ None ↦ None | Some file ↦ Some (disk.holds file) ])) at

-- the new file has the mode that is taken, or the usual one
pub mode_taken : (usual : ℕ) (disk : Disk) (may_write : ℕ → Type 0) (path place : List ℕ) (mode : Option ℕ) → disk.paths path ≡ Some place
    → TakesMode disk may_write path mode → last_mode usual mode ≡ mode_at usual disk (Some place)
mode_taken usual disk may_write path place None at takes = sym (seen_mode usual disk place None (takes place at))
mode_taken usual disk may_write path place (Some mode) at takes =
    sym takes.has.1 ∙ sym (seen_mode usual disk place (Some takes.file) (takes.there place at))

-- a file that must not be written has no mode to take
pub not_locked : (disk : Disk) (may_write : ℕ → Type 0) (path : List ℕ) (target : Option (List ℕ)) (mode : Option ℕ) → disk.paths path ≡ target
    → TakesMode disk may_write path mode → HasFile (IsLocked may_write) disk target → ⊥
not_locked disk may_write path None mode at takes locked = locked
not_locked disk may_write path (Some place) None at takes locked =
    let clash : None ≡ Some locked.0 = sym (takes place at) ∙ locked.1 in absurd (cc clash)
not_locked disk may_write path (Some place) (Some mode) at takes locked =
    let same : Some takes.file ≡ Some locked.0 = sym (takes.there place at) ∙ locked.1 in
    let is : takes.file ≡ locked.0 = cc same in locked.2 (subst may_write is takes.allowed)

-- a place that is none has no file
pub not_locked_by : (disk : Disk) (may_write : ℕ → Type 0) (target : Option (List ℕ)) → target ≡ None → HasFile (IsLocked may_write) disk target → ⊥
not_locked_by disk may_write None is locked = locked
not_locked_by disk may_write (Some place) is locked = absurd (cc is)

-- a text that was written at the place of a path, by the mode that is taken
pub puts_text : {T U E F : Type 0} (usual : ℕ) (old new : Disk) (may_write : ℕ → Type 0) (path place : List ℕ) (mode : Option ℕ) (text : List ℕ)
    (outcome : Result T E) (result : Result U F) → old.paths path ≡ Some place → TakesMode old may_write path mode → OnOk result (IsOk outcome)
    → OnErr result (IsErr outcome) → Replaces old new place (held usual mode text) outcome → PutsText usual old new (old.paths path) text result
puts_text usual old new may_write path place mode text outcome result at takes ok err r =
    subst (λ (m : ℕ). PutsOnce old new (old.paths path) (record { bytes = text; mode = m }) result)
    (mode_taken usual old may_write path place mode at takes ∙ ap (mode_at usual old) (sym at))
    (puts_once old new (old.paths path) place (held usual mode text) outcome result at ok err r)
