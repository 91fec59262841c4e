-- A group takes the looks that its changes take, one after another. This project's own.
use Rattle.std.proofs.Common.{◌≡◌, ◌++◌, [], ◌∷◌, ℕ, List, Option, Some, None, refl, ap, ap₂, sym}
use Rattle.std.proofs.Common.{subst, ◌∙◌, arith}
use Rattle.std.specs.Prelude.{flat_map}
use Rattle.irig_journal.specs.Turns.{CountsAll, left_by}
use Rattle.irig_saved.specs.declared.change.Change.TheVariants.{One, Group}
use Rattle.irig_saved.specs.{declared.change.Change.Change, declared.single.Single.Single}
use Rattle.irig_edit.specs.Changes.Delta.{gathered, singles_of, turned}
use Rattle.irig_edit.specs.Changes.Looks.{RoseWithin, both, looks_along, looks_by, looks_of}
use Rattle.irig_edit.specs.Changes.Laws.Groups.{singles_state}
use Rattle.irig_edit.specs.{Changes.Single.turned_single, State.State.State}

-- bounds are added in any order of the sums
both-both : (a b c : Option ℕ) → both a (both b c) ≡ both (both a b) c
both-both None b c = refl
both-both (Some a) None c = refl
both-both (Some a) (Some b) None = refl
both-both (Some a) (Some b) (Some c) = ap Some (omega arith)

-- with no look a bound stays
pub both-none : (a : Option ℕ) → both a (Some 0) ≡ a
both-none None = refl
both-none (Some a) = ap Some (omega arith)

none-both : (a : Option ℕ) → a ≡ both (Some 0) a
none-both None = refl
none-both (Some a) = ap Some (omega arith)

-- the looks of some, and then of others
pub looks_along-append : (s : State) (xs ys : List Single) → looks_along s (xs ++ ys)
    ≡ both (looks_along s xs) (looks_along (left_by turned_single s xs) ys)
looks_along-append s [] ys = none-both (looks_along s ys)
looks_along-append s (x ∷ xs) ys =
    let after = (turned_single s x).0 in
    let one = looks_by x after.pulses in
    ap (both one) (looks_along-append after xs ys)
    ∙ both-both one (looks_along after xs) (looks_along (left_by turned_single after xs) ys)

-- a change takes the looks of its singles
pub looks_along-singles : (s : State) (d : Change) → looks_along s (singles_of d) ≡ looks_of s d
looks_along-singles s (One single) = both-none (looks_by single (turned_single s single).0.pulses)
looks_along-singles s (Group singles) = refl

-- a rise within one bound, and then within another
pub rose_then : (most more : Option ℕ) (old between new : ℕ) → RoseWithin most old between
    → RoseWithin more between new → RoseWithin (both most more) old new
rose_then None None old between new one other = omega (arith, one, other)
rose_then None (Some more) old between new one other = omega (arith, one, other.0)
rose_then (Some most) None old between new one other = omega (arith, one.0, other)
rose_then (Some most) (Some more) old between new one other =
    (omega (arith, one.0, other.0), omega (arith, one.1, other.1))

-- the looks of a group are within the bound of its changes together
pub looks_of-gathered : (s : State) (ds : List Change) (old new : ℕ)
    → CountsAll (λ t d n m. RoseWithin (looks_of t d) n m) turned s ds old new
    → RoseWithin (looks_of s (gathered ds)) old new
looks_of-gathered s [] old new same = (omega (arith, same), omega (arith, same))
looks_of-gathered s (d ∷ ds) old new counts =
    let after = (turned s d).0 in
    let rest = looks_of-gathered after ds counts.0 new counts.2 in
    let bounds : both (looks_of s d) (looks_along after (flat_map singles_of ds))
    ≡ looks_along s (singles_of d ++ flat_map singles_of ds) =
    ap₂ (λ (most : Option ℕ) (t : State). both most (looks_along t (flat_map singles_of ds)))
    (sym (looks_along-singles s d)) (singles_state s d)
    ∙ sym (looks_along-append s (singles_of d) (flat_map singles_of ds)) in
    subst (λ (most : Option ℕ). RoseWithin most old new) bounds
    (rose_then (looks_of s d) (looks_along after (flat_map singles_of ds)) old counts.0 new counts.1
    rest)
