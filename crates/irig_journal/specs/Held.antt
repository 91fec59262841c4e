-- What a journal holds of its steps: their changes and their cursors. This project's own.
use Rattle.std.specs.Prelude.{ℕ, ◌≡◌, ◌++◌, Bool, true, false, List, [], ◌∷◌, drop, flat_map}
use Rattle.std.specs.Prelude.{length, reverse, take}
use Rattle.irig_journal.specs.declared.entry.Entry.{Entry}
use Rattle.irig_journal.specs.Sizes.{count_of, counts_of, is_group}
use Rattle.irig_journal.specs.declared.step.Step as shown

-- a list that has these items at one end, the front or the back
abbrev pub with_end : {A : Type 0} → Bool → List A → List A → List A
with_end true items others = items ++ others
with_end false items others = others ++ items

-- the changes of a step: one alone, or those of a group, the nearest first
pub data Parts (C : Type 0) : Type 0 where
  Alone : C → Parts C
  Group : List C → Parts C

-- the changes of a step, and the cursor of the state that it leads to
pub record Held (C : Type 0) : Type 0 where
  pub parts : Parts C
  pub cursor : ℕ

module _ {C : Type 0} where
  -- the changes, the nearest first
  abbrev pub parts_in : Parts C → List C
  parts_in (Alone c) = c ∷ []
  parts_in (Group cs) = cs

  -- these changes as those of a group, or as one alone
  abbrev pub parts_of : Bool → List C → Parts C
  parts_of true cs = Group cs
  parts_of false [] = Group []
  parts_of false (c ∷ []) = Alone c
  parts_of false (c ∷ (d ∷ cs)) = Group (c ∷ (d ∷ cs))

  -- a step with these changes and cursor
  abbrev pub held : Parts C → ℕ → Held C
  held parts n = record { parts = parts; cursor = n }

  -- a step as it is shown: its changes are shown with the nearest last
  abbrev pub held_of : shown.Step C → Held C
  held_of s = held (parts_of s.is_group (reverse s.changes.now)) s.cursor

  -- steps whose changes are in one list, both with the nearest first
  abbrev pub held_by : List C → List Entry → List (Held C)
  held_by cs [] = []
  held_by cs (near ∷ entries) =
      held (parts_of (is_group near.size) (take (count_of near.size) cs)) near.cursor
      ∷ held_by (drop (count_of near.size) cs) entries

  -- the changes of steps, the nearest first
  abbrev pub flat : List (Held C) → List C
  flat steps = flat_map (λ h. parts_in h.parts) steps

  -- the steps of lists that both end with the nearest, the nearest first
  abbrev pub held_in : List C → List Entry → List (Held C)
  held_in changes entries = held_by (reverse changes) (reverse entries)

  -- the entries have all the changes
  abbrev pub HaveAll : List C → List Entry → Type 0
  HaveAll changes entries = counts_of entries ≡ length changes

  -- the steps of such lists, the oldest first or the nearest first
  abbrev pub shown_in : Bool → List C → List Entry → List (Held C)
  shown_in true changes entries = reverse (held_in changes entries)
  shown_in false changes entries = held_in changes entries
