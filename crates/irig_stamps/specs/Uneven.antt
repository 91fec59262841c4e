-- The first line after the header that has another number of columns. This project's own.
use Rattle.std.specs.Prelude.{◌==◌, ◌&&◌, ℕ, not, List, [], ◌∷◌, Option, Some, None, if◌then◌else◌}
use Rattle.irig_stamps.specs.{declared.look.Look.Look, declared.tally.Uneven.Uneven}

-- how many columns the last line of the header has, after one more line
abbrev pub headed : Option ℕ → Look → Option ℕ
headed width x = if x.header then x.width else width

-- the same after some lines
abbrev pub width_after : Option ℕ → List Look → Option ℕ
width_after width [] = width
width_after width (x ∷ xs) = width_after (headed width x) xs

-- a line, if it is after the header and has another number of columns than the last line of that
abbrev pub uneven_by : Option ℕ → Option ℕ → Look → Option Uneven
uneven_by None columns x = None
uneven_by (Some header) None x = None
uneven_by (Some header) (Some columns) x =
    if not x.header && not (columns == header)
    then Some (record { number = x.number; width = columns; header = header }) else None

abbrev pub uneven_next : Option ℕ → Look → Option Uneven
uneven_next width x = uneven_by width x.width x

-- the first of two
abbrev pub first_of : Option Uneven → Option Uneven → Option Uneven
first_of None other = other
first_of (Some one) other = Some one

-- the first line after the header that has another number of columns than the last line of that
abbrev pub uneven_in : Option ℕ → List Look → Option Uneven
uneven_in width [] = None
uneven_in width (x ∷ xs) = first_of (uneven_next width x) (uneven_in (headed width x) xs)
