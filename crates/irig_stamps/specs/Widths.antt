-- How many columns a line has. This project's own.
use Rattle.std.specs.Prelude.{◌==◌, ◌+◌, ℕ, List, Option, Some, None}
use Rattle.std.specs.List.{count_by}

-- how many columns a line has, if a byte parts them: one more than it has of these bytes
abbrev pub width_of : Option ℕ → List ℕ → Option ℕ
width_of None text = None
width_of (Some c) text = Some (count_by (λ b. b == c) text + 1)
