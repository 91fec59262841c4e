-- How many changes a step has. This project's own.
use Rattle.std.specs.Prelude.{◌+◌, ◌++◌, ◌∷◌, [], ℕ, Bool, true, false, List, drop, get_or}
use Rattle.std.specs.Prelude.{if◌then◌else◌, length, nat_le, take}
use Rattle.std.specs.List.{sum_by}
use Rattle.irig_journal.specs.declared.size.Size.TheVariants.{Alone, Group}
use Rattle.irig_journal.specs.{declared.entry.Entry.Entry, declared.size.Size.Size}

-- how many changes a size says
abbrev pub count_of : Size → ℕ
count_of Alone = 1
count_of (Group n) = n

-- it is the size of a group
abbrev pub is_group : Size → Bool
is_group Alone = false
is_group (Group n) = true

-- how many changes steps have, all together
abbrev pub counts_of : List Entry → ℕ
counts_of entries = sum_by (λ e. count_of e.size) entries

-- what is kept of a step with this size and cursor
abbrev pub entry : Size → ℕ → Entry
entry size n = record { size = size; cursor = n }

-- of entries that end with the nearest, those after the n farthest made one group
abbrev pub joined_as : ℕ → ℕ → List Entry → List Entry
joined_as n cursor entries =
    take n entries ++ entry (Group (counts_of (drop n entries))) cursor ∷ []

-- the same, if they are more than one: the group leads to where the farthest of them leads
abbrev pub ended_beyond : ℕ → List Entry → List Entry
ended_beyond n entries = if nat_le (length entries) (n + 1) then entries
    else joined_as n (get_or entries n (entry Alone 0)).cursor entries
