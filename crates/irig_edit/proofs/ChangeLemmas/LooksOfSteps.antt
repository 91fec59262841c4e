-- How many looks a step of the journal takes.
use Rattle.std.proofs.Common.{◌≡◌, ◌-◌, ◌<◌, ◌≤◌, ◌^◌, ◌++◌, ℕ, List, [], ◌∷◌, Option, Some, None, refl, ap₂, sym, ◌∙◌, subst, arith}
use Rattle.std.specs.Prelude.{IfSome, flat_map}
use Rattle.irig_journal.specs.{declared.opening.Opening.Opening, History.CountsNearest, History.Step, Joining.CountsAlong, Joining.beyond, Joining.changes_of}
use Rattle.irig_saved.specs.{declared.change.Change.Change, declared.single.Single.Single}
use Rattle.irig_edit.specs.Changes.Delta.{gathered, singles_of, turned}
use Rattle.irig_edit.specs.Changes.Laws.Looks.{looks_along-append, looks_along-singles, rose_then}
use Rattle.irig_edit.specs.Changes.Looks.{RoseWithin, Within, both, looks_along, looks_of}
use Rattle.irig_edit.specs.{Changes.Laws.Groups.singles_state, Session.Session.looks_of_nearest, Session.Session.looks_since, State.State.State}

-- what the trait counts
abbrev pub counted : State → Change → ℕ → ℕ → Type 0
counted s d old new = RoseWithin (looks_of s d) old new

-- an undo and a redo look as the turn of the step may that they take
pub nearest_rose : (s : State) (steps : List (Step Change)) (old new : ℕ) → CountsNearest counted s steps old new
    → RoseWithin (looks_of_nearest s steps) old new
nearest_rose s [] old new counts = absurd counts
nearest_rose s (near ∷ steps) old new counts = counts

-- the bound of a change, and of others after it
looks_first : (s : State) (d : Change) (rest : List Single)
    → both (looks_of s d) (looks_along (turned s d).0 rest) ≡ looks_along s (singles_of d ++ rest)
looks_first s d rest =
    ap₂ (λ (x : Option ℕ) (t : State). both x (looks_along t rest)) (sym (looks_along-singles s d)) (singles_state s d)
    ∙ sym (looks_along-append s (singles_of d) rest)

-- turns one after another look as often as a turn of them all may
rose_along : (s : State) (steps : List (Step Change)) (old new : ℕ) → CountsAlong counted turned s steps old new
    → RoseWithin (looks_of s (gathered (changes_of steps))) old new
rose_along s [] old new same = (omega (arith, same), omega (arith, same))
rose_along s (near ∷ steps) old new counts =
    let after = (turned s near.change).0 in
    let rest = looks_of after (gathered (changes_of steps)) in
    subst (λ (most : Option ℕ). RoseWithin most old new) (looks_first s near.change (flat_map singles_of (changes_of steps)))
    (rose_then (looks_of s near.change) rest old counts.0 new counts.1 (rose_along after steps counts.0 new counts.2))

-- and so does an abort of what was made since the begin
pub since_rose : (s : State) (past : List (Step Change)) (floor : Option Opening) (old new : ℕ)
    → IfSome floor (λ o. CountsAlong counted turned s (beyond o.steps past) old new) → (floor ≡ None → ⊥) → RoseWithin (looks_since floor s past) old new
since_rose s past None old new counts some = absurd (some refl)
since_rose s past (Some o) old new counts some = rose_along s (beyond o.steps past) old new counts

-- what an accepted call shows of its looks, a count that stays a number of 64 bits
pub shown : (most : Option ℕ) (old new before rise : ℕ) → RoseWithin most old new → before ≡ old → before < 2 ^ 64 → rise ≡ new - before
    → (old ≤ new) × (rise ≡ new - old) × Within most rise
shown None old new before rise within is short risen = (omega (arith, within), omega (arith, risen), tt)
shown (Some most) old new before rise within is short risen =
    (omega (arith, within.0), omega (arith, risen), omega (arith, within.0, within.1, risen))
