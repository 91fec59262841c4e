-- The parts of a path. This project's own.
use Rattle.std.specs.Prelude.{◌≡◌, ℕ, List, [], ◌∷◌, Option, Some, None, codes, unwrap_or}
use Rattle.std.specs.Path.{path_file_name, path_join, path_parent}

-- the folder of a path, by its parent
abbrev pub folder_in : Option (List ℕ) → List ℕ
folder_in None = codes "."
folder_in (Some []) = codes "."
folder_in (Some (byte ∷ bytes)) = byte ∷ bytes

-- the folder of a path
abbrev pub folder_of : List ℕ → List ℕ
folder_of path = folder_in (path_parent path)

-- where a link at a path leads, by its text
abbrev pub followed : List ℕ → List ℕ → List ℕ
followed path text = path_join (unwrap_or (path_parent path) path) text

-- an open folder is the one of each path to a name in it, but for links and what is no regular file
abbrev pub IsFolderOf : (List ℕ → Option (List ℕ)) → (List ℕ → Type 0)
    → (List ℕ → Option (List ℕ)) → (List ℕ → List ℕ) → List ℕ → Type 0
IsFolderOf link_at is_other paths place folder = (path name : List ℕ) → folder_of path ≡ folder
    → path_file_name path ≡ Some name → link_at path ≡ None → (is_other path → ⊥)
    → paths path ≡ Some (place name)

-- a chain of links leads from a path to another, where no link is
pub record LeadsTo (link_at : List ℕ → Option (List ℕ)) (is_other : List ℕ → Type 0)
    (paths : List ℕ → Option (List ℕ)) (path target : List ℕ) : Type 0 where
  pub no_link : link_at target ≡ None
  pub other : is_other target → is_other path
  pub same : paths target ≡ paths path
