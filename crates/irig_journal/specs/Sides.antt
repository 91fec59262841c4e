-- The two sides of the present, and their places. This project's own.
use Rattle.std.specs.Prelude.{◌≡◌, ◌+◌, ◌-◌, ◌<◌, ◌≤◌, ℕ, List, vec_capacity, vec_len}
use Rattle.irig_journal.specs.{declared.side.Side.Side, Held.HaveAll, Held.Held, Held.held_in}

-- for how many steps more a side has places, and for how many changes more
pub record Spare : Type 0 where
  pub steps : ℕ
  pub changes : ℕ

-- two lists of these capacities have places for that many items each
abbrev pub HavePlaces : ℕ → ℕ → ℕ → Type 0
HavePlaces items capacity other = (items ≤ capacity) × (items ≤ other)

module _ {C : Type 0} where
  -- the steps of a side, the nearest first
  abbrev pub steps_on : Side C → List (Held C)
  steps_on side = held_in side.changes.items side.entries.items

  -- for how many more it has places
  abbrev pub spare_of : Side C → Spare
  spare_of side = record {
    steps = vec_capacity side.entries - vec_len side.entries;
    changes = vec_capacity side.changes - vec_len side.changes;
  }

  -- the entries of a side have all its changes
  abbrev pub IsWhole : Side C → Type 0
  IsWhole side = HaveAll side.changes.items side.entries.items

  -- the entries of each of two sides have all its changes, and each has a place for all of both
  pub record AreSides (a b : Side C) : Type 0 where
    pub whole : IsWhole a
    pub other_whole : IsWhole b
    pub steps : HavePlaces (vec_len a.entries + vec_len b.entries) (vec_capacity a.entries)
        (vec_capacity b.entries)
    pub changes : HavePlaces (vec_len a.changes + vec_len b.changes) (vec_capacity a.changes)
        (vec_capacity b.changes)

  -- two sides hold the same, and the second has the places of the first, and perhaps more
  pub record IsSameSide (old new : Side C) : Type 0 where
    pub changes : new.changes.items ≡ old.changes.items
    pub entries : new.entries.items ≡ old.entries.items
    pub lengths : (vec_len new.changes ≡ vec_len old.changes)
        × (vec_len new.entries ≡ vec_len old.entries)
    pub capacities : (vec_capacity old.changes ≤ vec_capacity new.changes)
        × (vec_capacity old.entries ≤ vec_capacity new.entries)

  -- a side has a place for a step of one change more, and the other for all its steps then
  pub record HavePlacesForStep (past future : Side C) : Type 0 where
    pub step : vec_len past.entries < vec_capacity past.entries
    pub change : vec_len past.changes < vec_capacity past.changes
    pub step_back : vec_len past.entries < vec_capacity future.entries
    pub change_back : vec_len past.changes < vec_capacity future.changes
