-- How many looks at pulses a turn of a change may take. This project's own.
use Rattle.std.specs.Prelude.{◌≤◌, ℕ, ◌+◌, ◌-◌, ◌*◌, ◌^◌, List, [], ◌∷◌, Option, Some, None, length}
use Rattle.std.specs.Prelude.{suc, min, nat_le, ◌&&◌, cond}
use Rattle.irig_track.specs.Shifts.{count_to}
use Rattle.irig_recording.specs.declared.pulse.Pulse.{Pulse}
use Rattle.irig_saved.specs.declared.change.Change.TheVariants.{One, Group}
use Rattle.irig_saved.specs.declared.single.Single.TheVariants.{Splice, Toggle, Shift, SetFormat}
use Rattle.irig_saved.specs.declared.single.Single.TheVariants.{SetMark}
use Rattle.irig_saved.specs.{declared.change.Change.Change, declared.single.Single.Single}
use Rattle.irig_edit.specs.{Changes.Single.turned_single, State.State.State}

-- how many pulses are there from a to b: they rise at or before b and fall at or after a
abbrev pub standing_in : ℕ → ℕ → List Pulse → ℕ
standing_in a b [] = 0
standing_in a b (p ∷ ps) = cond (nat_le p.rise b && nat_le a p.fall) 1 0 + standing_in a b ps

-- the most looks of a turn that leaves this many pulses at its place
abbrev pub window : ℕ → Option ℕ
window size = Some (3 * (size + 200))

-- the most looks of a turn of a single change that leaves these pulses: a change of the format may
-- look at them all, one of a mark looks at none
abbrev pub looks_by : Single → List Pulse → Option ℕ
looks_by (Splice at count put) after = window (length put)
looks_by (Toggle a b) after = window (standing_in a b after)
looks_by (Shift (suc i) (suc j) d named) after = window (count_to i j)
looks_by (SetFormat kind expression) after = None
looks_by (Shift i j d named) after = Some 0
looks_by (SetMark letter time) after = Some 0

-- the sum of two bounds, if there are both
abbrev pub both : Option ℕ → Option ℕ → Option ℕ
both None other = None
both (Some most) None = None
both (Some most) (Some more) = Some (most + more)

-- the most looks of the turns of single changes, one after another
abbrev pub looks_along : State → List Single → Option ℕ
looks_along s [] = Some 0
looks_along s (single ∷ singles) =
    both (looks_by single (turned_single s single).0.pulses)
    (looks_along (turned_single s single).0 singles)

-- the most looks of a turn of a change
abbrev pub looks_of : State → Change → Option ℕ
looks_of s (One single) = looks_by single (turned_single s single).0.pulses
looks_of s (Group singles) = looks_along s singles

-- a number is within a bound, if there is one
abbrev pub Within : Option ℕ → ℕ → Type 0
Within None n = Unit {0}
Within (Some most) n = n ≤ most

-- a count of looks, which stays at 2^64 - 1, did not fall
abbrev pub Rose : ℕ → ℕ → Type 0
Rose old new = min old (2 ^ 64 - 1) ≤ new

-- a count of looks did not fall, and rose by no more than a bound, if there is one
abbrev pub RoseWithin : Option ℕ → ℕ → ℕ → Type 0
RoseWithin None old new = Rose old new
RoseWithin (Some most) old new = Rose old new × (new ≤ old + most)
