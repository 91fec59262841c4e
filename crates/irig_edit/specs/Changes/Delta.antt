-- When a change of a state can be made, alone or as a group of several, and what it leaves. This
-- project's own.
use Rattle.std.specs.Prelude.{ℕ, ◌-◌, ◌^◌, List, [], ◌∷◌, flat_map, min}
use Rattle.std.specs.List.{sum_by}
use Rattle.irig_journal.specs.Turns.{FitAll, left_by, ways_back}
use Rattle.irig_saved.specs.declared.change.Change.TheVariants.{One, Group}
use Rattle.irig_saved.specs.{declared.change.Change.Change, declared.single.Single.Single}
use Rattle.irig_edit.specs.Changes.Single.{FitsSingle, held_in, turned_single}
use Rattle.irig_edit.specs.State.State.{State}

-- the change can be made: of a group, each single in its turn
abbrev pub Fits : State → Change → Type 0
Fits s (One single) = FitsSingle s single
Fits s (Group singles) = FitAll FitsSingle turned_single s singles

-- the state that a change leaves, and the change that leads back: of a group, what leads back from
-- its singles in the opposite order
abbrev pub turned : State → Change → State × Change
turned s (One single) = ((turned_single s single).0, One (turned_single s single).1)
turned s (Group singles) =
    (left_by turned_single s singles, Group (ways_back turned_single s singles))

-- how many pulses a change holds, those of a group counted up to 2^64 - 1
abbrev pub weight_of : Change → ℕ
weight_of (One single) = held_in single
weight_of (Group singles) = min (sum_by held_in singles) (2 ^ 64 - 1)

-- the single changes of a change
abbrev pub singles_of : Change → List Single
singles_of (One single) = single ∷ []
singles_of (Group singles) = singles

-- the group of the single changes of several
abbrev pub gathered : List Change → Change
gathered changes = Group (flat_map singles_of changes)
