-- The changes of a group are those of its parts. This project's own.
use Rattle.std.proofs.Common.{◌≡◌, ◌++◌, [], ◌∷◌, List, map, refl, ap, ap₂, ◌∙◌}
use Rattle.std.specs.Prelude.{flat_map}
use Rattle.std.proofs.lemmas.List.{map-append}
use Rattle.irig_journal.specs.{Held.Parts, Held.parts_in, Held.Parts.Alone, Held.Parts.Group}
use Rattle.irig_edit.specs.{Changes.Delta.gathered, Changes.Delta.singles_of, Changes.Held.delta_of}
use Rattle.irig_edit.specs.{Changes.Held.single_of, declared.changes.turn.Turn.Turn}
use Rattle.irig_saved.specs.declared.change.Change.TheVariants as change
use Rattle.irig_saved.specs.declared.single.Single as saved

-- the single changes of a step
pub singles_of-delta_of : (p : Parts Turn) → map single_of (parts_in p) ≡ singles_of (delta_of p)
singles_of-delta_of (Alone single) = refl
singles_of-delta_of (Group singles) = refl

-- and of several
parts_of_all : (ps : List (Parts Turn))
    → map single_of (flat_map parts_in ps) ≡ flat_map singles_of (map delta_of ps)
parts_of_all [] = refl
parts_of_all (p ∷ ps) =
    map-append single_of (parts_in p) (flat_map parts_in ps)
    ∙ ap₂ (λ (xs ys : List saved.Single). xs ++ ys) (singles_of-delta_of p) (parts_of_all ps)

-- the group of the changes of several steps is what their changes are gathered to
pub delta_of-group : (ps : List (Parts Turn))
    → delta_of (Group (flat_map parts_in ps)) ≡ gathered (map delta_of ps)
delta_of-group ps = ap change.Group (parts_of_all ps)
