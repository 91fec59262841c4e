-- Where links lead in folders in memory. This project's own.
use Rattle.std.specs.Prelude.{ℕ, zero, suc, List, Option, Some, None, option_map, string_bytes}
use Rattle.irig_files.specs.Paths.{followed}
use Rattle.irig_folders.specs.declared.layout.FolderPath.{FolderPath}
use Rattle.irig_folders.specs.declared.layout.{Layout.Layout, Other.Other}
use Rattle.irig_folders.specs.Places.{place_in, at_place}

-- the text of a link
abbrev pub text_of : Option Other → Option (List ℕ)
text_of None = None
text_of (Some other) = option_map (λ text. string_bytes text) other.text

-- the text of the link at a path
abbrev pub text_at : List FolderPath → (List ℕ → Option Other) → List ℕ → Option (List ℕ)
text_at folders others path = text_of (at_place others (place_in folders path))

-- a path with no link is its own end
abbrev pub end_by : List ℕ → (List ℕ → Option (List ℕ)) → Option (List ℕ) → Option (List ℕ)
end_by path next None = Some path
end_by path next (Some text) = next text

-- where at most this many links lead from a path, by the texts of links
abbrev pub end_of : (List ℕ → Option (List ℕ)) → ℕ → List ℕ → Option (List ℕ)
end_of texts zero path = end_by path (λ _. None) (texts path)
end_of texts (suc n) path = end_by path (λ text. end_of texts n (followed path text)) (texts path)

-- where links lead from a path
abbrev pub ends : Layout → (List ℕ → Option Other) → List ℕ → Option (List ℕ)
ends w others path = end_of (text_at w.folders.items others) w.limit path

abbrev pub link_by : Option (List ℕ) → Option (List ℕ) → Option (List ℕ)
link_by None text = None
link_by (Some end) text = text

-- the text of the link at a path that leads somewhere
abbrev pub link_at : Layout → (List ℕ → Option Other) → List ℕ → Option (List ℕ)
link_at w others path = link_by (ends w others path) (text_at w.folders.items others path)
