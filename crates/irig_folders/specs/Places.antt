-- The places of paths, and which have a file that is no regular one. This project's own.
use Rattle.std.specs.Prelude.{◌++◌, ℕ, nat_eq, List, [], ◌∷◌, Option, Some, None, cond, string_bytes}
use Rattle.std.specs.{Path.path_file_name, Str.bytes_eq}
use Rattle.irig_files.specs.Paths.{folder_of}
use Rattle.irig_folders.specs.declared.layout.FolderPath.{FolderPath}
use Rattle.irig_folders.specs.declared.layout.{Layout.Layout, Other.Other}

-- what the places of a folder begin with, by one of its paths
abbrev pub front_in : List FolderPath → List ℕ → Option (List ℕ)
front_in [] path = None
front_in (f ∷ fs) path =
    cond (bytes_eq (string_bytes f.path) path) (Some (string_bytes f.front)) (front_in fs path)

-- a file that is no regular one, by its number
abbrev pub other_in : List Other → ℕ → Option Other
other_in [] i = None
other_in (o ∷ os) i = cond (nat_eq o.number i) (Some o) (other_in os i)

-- the same of a file, if there is one
abbrev pub other_of : List Other → Option ℕ → Option Other
other_of others None = None
other_of others (Some i) = other_in others i

-- what is no regular file at a place, by what places lead to
abbrev pub over : Layout → (List ℕ → Option ℕ) → List ℕ → Option Other
over w leads place = other_of w.others.items (leads place)

-- a name after the front of its folder
abbrev pub joined : Option (List ℕ) → Option (List ℕ) → Option (List ℕ)
joined None front = None
joined (Some name) None = None
joined (Some name) (Some front) = Some (front ++ name)

-- the place of a path, whatever is there
abbrev pub place_in : List FolderPath → List ℕ → Option (List ℕ)
place_in folders path = joined (path_file_name path) (front_in folders (folder_of path))

-- what is no regular file there, if there is a place
abbrev pub at_place : (List ℕ → Option Other) → Option (List ℕ) → Option Other
at_place others None = None
at_place others (Some place) = others place
