-- A group does what its changes do, one after another. This project's own.
use Rattle.std.proofs.Common.{◌≡◌, ◌-◌, ◌^◌, ◌∷◌, [], List, min, refl, ap₂, sym, arith}
use Rattle.std.specs.Prelude.{flat_map}
use Rattle.std.specs.List.{sum_by}
use Rattle.std.proofs.lemmas.List.Sums.{sum_by-append, sum_by-cons}
use Rattle.irig_journal.specs.Turns.{FitAll, left_by, ways_back}
use Rattle.irig_journal.specs.Laws.Parts.{IsOfParts, fit_of_parts, state_of_parts, ways_of_parts}
use Rattle.irig_saved.specs.declared.change.Change.{Change}
use Rattle.irig_saved.specs.declared.change.Change.TheVariants.{One, Group}
use Rattle.irig_edit.specs.Changes.Delta.{Fits, turned, gathered, singles_of, weight_of}
use Rattle.irig_edit.specs.Changes.Single.{FitsSingle, turned_single, held_in}
use Rattle.irig_edit.specs.{Changes.Laws.Delta.with_together, State.State.State}

-- a change is its singles, made one after another
fit_singles : (s : State) (d : Change) → Fits s d
    → FitAll FitsSingle turned_single s (singles_of d)
fit_singles s (One d) can = (can, tt)
fit_singles s (Group ds) can = can

pub singles_state : (s : State) (d : Change)
    → (turned s d).0 ≡ left_by turned_single s (singles_of d)
singles_state s (One d) = refl
singles_state s (Group ds) = refl

singles_back : (s : State) (d : Change)
    → singles_of (turned s d).1 ≡ ways_back turned_single s (singles_of d)
singles_back s (One d) = refl
singles_back s (Group ds) = refl

changes_are_of_singles : IsOfParts Fits turned FitsSingle turned_single singles_of
changes_are_of_singles =
    record { fit = fit_singles; state = singles_state; back = singles_back }

-- the group of changes can be made if they can, one after another
pub Fits-gathered : (s : State) (ds : List Change) → FitAll Fits turned s ds → Fits s (gathered ds)
Fits-gathered s ds can =
    fit_of_parts Fits turned FitsSingle turned_single singles_of changes_are_of_singles s ds can

-- it leaves what they leave, and leads back as they do
pub turned-gathered : (s : State) (ds : List Change)
    → turned s (gathered ds) ≡ (left_by turned s ds, gathered (ways_back turned s ds))
turned-gathered s ds =
    ap₂ with_together
    (sym (state_of_parts Fits turned FitsSingle turned_single singles_of
    changes_are_of_singles s ds))
    (sym (ways_of_parts Fits turned FitsSingle turned_single singles_of
    changes_are_of_singles s ds))

-- it holds what they hold
held_in_all : (d : Change)
    → min (weight_of d) (2 ^ 64 - 1) ≡ min (sum_by held_in (singles_of d)) (2 ^ 64 - 1)
held_in_all (One d) = omega arith
held_in_all (Group ds) = omega arith

pub weight_of-gathered : (ds : List Change)
    → weight_of (gathered ds) ≡ min (sum_by weight_of ds) (2 ^ 64 - 1)
weight_of-gathered [] = refl
weight_of-gathered (d ∷ ds) =
    let rest = weight_of-gathered ds in
    let parts = sum_by-append held_in (singles_of d) (flat_map singles_of ds) in
    omega (arith, rest, held_in_all d, sum_by-cons weight_of d ds, parts)
