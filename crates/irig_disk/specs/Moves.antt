-- What a rename and a removal make of a folder. This project's own.
use Rattle.std.specs.Prelude.{◌≡◌, ◌≢◌, ◌⊎◌, ℕ, List, [], ◌∷◌, ◌++◌, Option, Some, None}
use Rattle.irig_disk.specs.Disk.{Disk, IsPlace, seen_under}
use Rattle.irig_disk.specs.{Stays.OtherNamesStay, Stays.FilesStay, Trail.Moved, Trail.NotMoved}

-- What a rename may leave: either name as it was or as it is after it, whether it succeeds or not.
pub record MayMove (old new : Disk) («from» to : List ℕ) : Type 0 where
  pub left_to : (x : Option ℕ) → new.may_lead to x
      → old.may_lead to x ⊎ (x ≡ old.leads «from»)
  pub left_from : (x : Option ℕ) → new.may_lead «from» x → old.may_lead «from» x ⊎ (x ≡ None)
  -- if it is no link that is moved, or moved over
  pub paths : (i : ℕ) → old.leads «from» ≡ Some i → old.regular i → IsPlace old to
      → new.paths ≡ old.paths
  pub names : OtherNamesStay old new «from» to
  pub files : FilesStay old new

-- the file of one name has another
pub record IsMoved (old new : Disk) («from» to : List ℕ) : Type 0 where
  pub seen_to : new.leads to ≡ old.leads «from»
  pub seen_from : «from» ≢ to → new.leads «from» ≡ None
  pub log : new.log ≡ old.log ++ Moved to (seen_under old «from») ∷ []
  pub may : MayMove old new «from» to

-- no rename is seen, but a crash may show it
pub record IsNotMoved (old new : Disk) («from» to : List ℕ) : Type 0 where
  pub seen : (n : List ℕ) → new.leads n ≡ old.leads n
  pub regular : (i : ℕ) → old.regular i → new.regular i
  pub log : new.log ≡ old.log ++ NotMoved to (seen_under old «from») ∷ []
  pub may : MayMove old new «from» to

-- what a removal may leave
pub record MayRemove (old new : Disk) (name : List ℕ) : Type 0 where
  pub left : (x : Option ℕ) → new.may_lead name x → old.may_lead name x ⊎ (x ≡ None)
  pub paths : (i : ℕ) → old.leads name ≡ Some i → old.regular i → new.paths ≡ old.paths
  pub log : new.log ≡ old.log
  pub names : OtherNamesStay old new name name
  pub files : FilesStay old new

-- the name is free
pub record Removed (old new : Disk) (name : List ℕ) : Type 0 where
  pub seen : new.leads name ≡ None
  pub may : MayRemove old new name

-- no removal is seen, but a crash may show it
pub record NotRemoved (old new : Disk) (name : List ℕ) : Type 0 where
  pub seen : new.leads name ≡ old.leads name
  pub may : MayRemove old new name
