-- The steps of a side and its places, as entries and changes are exchanged.
use Rattle.std.proofs.Common.{◌≡◌, ◌≤◌, ◌+◌, List, length, map, vec_capacity, vec_len, ap, ap₂, ◌∙◌, arith, inl, inr}
use Rattle.std.specs.Prelude.{◌⊎◌}
use Rattle.std.proofs.lemmas.List.{length-map, length-reverse}
use Rattle.irig_journal.specs.{declared.entry.Entry.Entry, declared.side.Side.Side, Held.Parts, Held.held_in, Journal.LacksPlace, Journal.steps_in}
use Rattle.irig_journal.specs.{Journal.told, Sides.AreSides, Sides.IsSameSide, Sides.spare_of, Sides.steps_on}
use Rattle.irig_journal.proofs.HeldLemmas.{flat-held_in, length-held_in}

module _ {C D : Type 0} where
  pub length-told : (delta : Parts C → D) (cs : List C) (es : List Entry) → length (map (told delta) (held_in cs es)) ≡ length es
  length-told delta cs es = length-map (held_in cs es) (told delta) ∙ length-held_in cs es

module _ {C : Type 0} where
  -- two sides that hold the same have the same steps
  pub same_steps : (a b : Side C) → IsSameSide a b → steps_on b ≡ steps_on a
  same_steps a b same = ap₂ (λ (cs : List C) (es : List Entry). held_in cs es) same.changes same.entries

  -- a side that is full lacks a place
  pub lacks_place : (past future : Side C) → AreSides past future
      → ((vec_capacity past.entries ≤ vec_len past.entries) ⊎ (vec_capacity past.changes ≤ vec_len past.changes)
      ⊎ (vec_capacity future.entries ≤ vec_len past.entries) ⊎ (vec_capacity future.changes ≤ vec_len past.changes))
      → LacksPlace (steps_in past future)
  lacks_place past future sides (inl full) = inl (omega (arith, full))
  lacks_place past future sides (inr (inl full)) = inr (inl (omega (arith, full)))
  lacks_place past future sides (inr (inr (inl full))) =
      inr (inr (inl (omega (
        arith,
        full,
        sides.steps.1,
        length-held_in past.changes.items past.entries.items,
        length-held_in future.changes.items future.entries.items,
      ))))
  lacks_place past future sides (inr (inr (inr full))) =
      inr (inr (inr (omega (
        arith,
        full,
        sides.changes.1,
        ap length (flat-held_in past.changes.items past.entries.items sides.whole),
        ap length (flat-held_in future.changes.items future.entries.items sides.other_whole),
        length-reverse past.changes.items,
        length-reverse future.changes.items,
      ))))

  -- a side with no place next to the steps of both has places for those of the other alone
  pub lacks_group : (past future : Side C)
      → ((vec_capacity past.entries ≤ vec_len past.entries + vec_len future.entries)
      ⊎ (vec_capacity future.entries ≤ vec_len past.entries + vec_len future.entries))
      → ((spare_of past).steps ≤ length (steps_on future)) ⊎ ((spare_of future).steps ≤ length (steps_on past))
  lacks_group past future (inl full) = inl (omega (arith, full, length-held_in future.changes.items future.entries.items))
  lacks_group past future (inr full) = inr (omega (arith, full, length-held_in past.changes.items past.entries.items))
