-- What a single name in a folder is. This project's own.
use Rattle.std.specs.Prelude.{◌≡◌, ℕ, List, Some}
use Rattle.std.specs.Path.{path_file_name}

-- A path of one component, which is neither `.` nor `..`: it is its own last one.
abbrev pub IsName : List ℕ → Type 0
IsName name = path_file_name name ≡ Some name
