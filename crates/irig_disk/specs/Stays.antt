-- What stays of a folder in a call. This project's own.
use Rattle.std.specs.Prelude.{◌≡◌, ◌≢◌, ℕ, List, Option}
use Rattle.irig_disk.specs.{Disk.Disk, Held.Held}

-- every name but these two leads where it led, and may be left so
pub record OtherNamesStay (old new : Disk) (name other : List ℕ) : Type 0 where
  pub seen : (n : List ℕ) → n ≢ name → n ≢ other → new.leads n ≡ old.leads n
  pub left : (n : List ℕ) (x : Option ℕ) → n ≢ name → n ≢ other → new.may_lead n x
      → old.may_lead n x

-- every name leads where it led, and may be left so
pub record NamesStay (old new : Disk) : Type 0 where
  pub seen : (n : List ℕ) → new.leads n ≡ old.leads n
  pub left : (n : List ℕ) (x : Option ℕ) → new.may_lead n x → old.may_lead n x
  pub paths : new.paths ≡ old.paths
  pub regular : (i : ℕ) → old.regular i → new.regular i
  pub log : new.log ≡ old.log

-- every file but this one holds what it held, and may be left so
pub record OtherFilesStay (old new : Disk) (file : ℕ) : Type 0 where
  pub seen : (i : ℕ) → i ≢ file → new.holds i ≡ old.holds i
  pub left : (i : ℕ) (h : Held) → i ≢ file → new.may_hold i h → old.may_hold i h

-- every file holds what it held, and may be left so
pub record FilesStay (old new : Disk) : Type 0 where
  pub seen : (i : ℕ) → new.holds i ≡ old.holds i
  pub left : (i : ℕ) (h : Held) → new.may_hold i h → old.may_hold i h

-- nothing is changed
pub record Stays (old new : Disk) : Type 0 where
  pub names : NamesStay old new
  pub files : FilesStay old new
