-- A group of edits of a stack does what the edits do, one after another. This project's own.
use Rattle.std.proofs.Common.{◌≡◌, ◌-◌, ◌^◌, ◌∷◌, [], ℕ, List, map, min, refl, ap, ap₂, sym, arith}
use Rattle.std.proofs.Common.{length-append}
use Rattle.std.specs.Prelude.{flat_map}
use Rattle.std.specs.List.{sum_by}
use Rattle.std.proofs.lemmas.{List.map-id, List.Sums.sum_by-append, List.Sums.sum_by-cons}
use Rattle.irig_journal.specs.Held.{Alone, Group, Parts, parts_in}
use Rattle.irig_journal.specs.Turns.{CountsAll, FitAll, left_by, ways_back}
use Rattle.irig_journal.specs.Laws.Parts.{IsOfParts, fit_of_parts, state_of_parts, ways_of_parts}
use Rattle.irig_part_tests.specs.declared.stack.Single.TheVariants.{Push, Pop}
use Rattle.irig_part_tests.specs.Stack.{CanMake, made, CanEdit, edited, bytes_held, bytes_in}
use Rattle.irig_part_tests.specs.Stack.{grouped, Counts}
use Rattle.irig_part_tests.specs.{declared.stack.Single.Single, Laws.Edits.pair_with_group}

-- an edit is its pushes and pops, made one after another
edit_fit : (xs : List ℕ) (d : Parts Single) → CanEdit xs d → FitAll CanMake made xs (parts_in d)
edit_fit xs (Alone single) can = (can, tt)
edit_fit xs (Group singles) can = can

edit_state : (xs : List ℕ) (d : Parts Single) → (edited xs d).0 ≡ left_by made xs (parts_in d)
edit_state xs (Alone single) = refl
edit_state xs (Group singles) = refl

edit_back : (xs : List ℕ) (d : Parts Single)
    → parts_in (edited xs d).1 ≡ ways_back made xs (parts_in d)
edit_back xs (Alone single) = refl
edit_back xs (Group singles) = refl

edits_are_of_singles : IsOfParts CanEdit edited CanMake made parts_in
edits_are_of_singles = record { fit = edit_fit; state = edit_state; back = edit_back }

-- the group of edits can be made if they can, one after another
pub CanEdit-grouped : (xs : List ℕ) (ds : List (Parts Single)) → FitAll CanEdit edited xs ds
    → CanEdit xs (grouped ds)
CanEdit-grouped xs ds can =
    fit_of_parts CanEdit edited CanMake made parts_in edits_are_of_singles xs ds can

-- it leaves what they leave, and leads back as they do
pub edited-grouped : (xs : List ℕ) (ds : List (Parts Single))
    → edited xs (grouped ds) ≡ (left_by edited xs ds, grouped (ways_back edited xs ds))
edited-grouped xs ds =
    ap₂ pair_with_group
    (sym (state_of_parts CanEdit edited CanMake made parts_in edits_are_of_singles xs ds))
    (sym (ways_of_parts CanEdit edited CanMake made parts_in edits_are_of_singles xs ds))

-- it holds what they hold
held_in : (d : Parts Single) → bytes_held d ≡ min (sum_by bytes_in (parts_in d)) (2 ^ 64 - 1)
held_in (Alone (Push x)) = refl
held_in (Alone Pop) = refl
held_in (Group singles) = refl

-- it holds what they hold, counted up to 2^64 - 1
pub bytes_held-grouped : (ds : List (Parts Single))
    → bytes_held (grouped ds) ≡ min (sum_by bytes_held ds) (2 ^ 64 - 1)
bytes_held-grouped [] = refl
bytes_held-grouped (d ∷ ds) =
    let rest = bytes_held-grouped ds in
    let parts = sum_by-append bytes_in (parts_in d) (flat_map parts_in ds) in
    omega (arith, rest, held_in d, sum_by-cons bytes_held d ds, parts)

-- it counts as many turns as they do
pub Counts-grouped : (xs : List ℕ) (ds : List (Parts Single)) (old new : ℕ)
    → CountsAll Counts edited xs ds old new → Counts xs (grouped ds) old new
Counts-grouped xs [] old new counts few = omega (arith, few, counts)
Counts-grouped xs (d ∷ ds) old new counts few =
    let one = counts.1 few in
    let rest = Counts-grouped (edited xs d).0 ds counts.0 new counts.2 (omega (arith, one)) in
    omega (arith, few, one, rest, length-append (parts_in d) (flat_map parts_in ds))

-- a group of the pushes and pops of edits is these edits, grouped
pub gathered-parts : (ps : List (Parts Single))
    → grouped ps ≡ grouped (map (λ d. d) ps)
gathered-parts ps = ap grouped (sym (map-id ps))
