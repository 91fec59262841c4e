-- The rows of stretches without a time. This project's own.
use Rattle.std.specs.Prelude.{◌-◌, ℕ, Bool, true, false, List, [], ◌∷◌, ◌++◌, Option, codes, decimal}
use Rattle.std.specs.Prelude.{unwrap_or}
use Rattle.irig_stamps.specs.{Reasons.why_text, declared.stretch.Stretch.Stretch}

-- the row of a stretch: its begin, its end, how long it is, and why it has no time
abbrev pub plain_span : ℕ → Stretch → List ℕ
plain_span comma s = decimal s.begin ++ (comma ∷ decimal s.end ++ (comma ∷ []))

abbrev pub plain_end : ℕ → Stretch → List ℕ
plain_end comma s = decimal (s.end - s.begin) ++ (comma ∷ why_text s.why ++ (10 ∷ []))

abbrev pub plain_row : ℕ → Stretch → List ℕ
plain_row comma s = plain_span comma s ++ plain_end comma s

-- as an object of JSON
abbrev pub json_span : Stretch → List ℕ
json_span s = codes "{\"begin\":" ++ (decimal s.begin ++ (codes ",\"end\":" ++ decimal s.end))

abbrev pub json_end : Stretch → List ℕ
json_end s = codes ",\"why\":\"" ++ (why_text s.why ++ codes "\"}\n")

abbrev pub json_row : Stretch → List ℕ
json_row s = json_span s ++ json_end s

abbrev pub hole_row : Bool → Option ℕ → Stretch → List ℕ
hole_row true comma s = json_row s
hole_row false comma s = plain_row (unwrap_or comma 9) s

-- the rows of stretches, which are from the last to the first
abbrev pub rows : Bool → Option ℕ → List Stretch → List ℕ
rows json comma [] = []
rows json comma (s ∷ before) = rows json comma before ++ hole_row json comma s
