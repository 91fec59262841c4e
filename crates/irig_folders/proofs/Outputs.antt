-- The file that the answers go to, and what the file at a path holds.
use Rattle.std.proofs.Common.{◌≡◌, ◌≢◌, ◌∙◌, sym, ap, refl, ℕ, nat_eq, List, [], ◌∷◌, Option, Some, None, Bool, true, false, cond}
use Rattle.std.proofs.lemmas.Bool.{eq-eqb}
use Rattle.std.specs.Prelude.{is_none, option_map}
use Rattle.irig_folders.specs.{Log.holds_in, Log.leads_in, declared.call.Call.Call}
use Rattle.irig_folders.specs.{Places.other_in, Places.over, Tree.IsFound, Tree.IsOther, Tree.path_to}
use Rattle.irig_folders.specs.TreeFiles.{file_at, file_by, file_to, held_at, output_in}
use Rattle.irig_folders.specs.declared.layout.{Layout.Layout, Other.Other}
use Rattle.irig_folders.proofs.Lifted.{found_other, found_regular}

first_or_later : (o : Other) (i : ℕ) (found : Option Other) (out : Option ℕ) (takes same : Bool) → nat_eq o.number i ≡ same
    → cond takes (Some o.number) out ≡ Some i → (out ≡ Some i → is_none found ≡ false) → is_none (cond same (Some o) found) ≡ false
first_or_later o i found out takes true eq is later = refl
first_or_later o i found out true false eq is later =
    let at : o.number ≡ i = cc is in
    let clash : true ≡ false = sym (eq-eqb o.number i at) ∙ eq in absurd (cc clash)
first_or_later o i found out false false eq is later = later is

-- it is one of those that are written in place
output_is_other : (others : List Other) (i : ℕ) → output_in others ≡ Some i → is_none (other_in others i) ≡ false
output_is_other [] i is = absurd (cc is)
output_is_other (o ∷ os) i is =
    first_or_later o i (other_in os i) (output_in os) o.takes_answers (nat_eq o.number i) refl is (output_is_other os i)

-- the numbers of a file
abbrev numbers : ℕ → ℕ × ℕ
numbers file = (0, file)

by_id : (i : ℕ) (out : Option ℕ) → Some (numbers i) ≡ option_map numbers out → out ≡ Some i
by_id i None is = absurd (cc is)
by_id i (Some n) is = let same : numbers i ≡ numbers n = cc is in ap (λ id. Some id.1) (sym same)

-- a path that leads to it leads to no place
pub output_nowhere : (w : Layout) (leads : List ℕ → Option ℕ) (path : List ℕ) (i : ℕ) (id : ℕ × ℕ) → IsFound w leads path (Some i) → id ≡ numbers i
    → Some id ≡ option_map numbers (output_in w.others.items) → path_to w (over w leads) path ≡ None
output_nowhere w leads path i id f of is =
    found_other w leads path i f (output_is_other w.others.items i (by_id i (output_in w.others.items) (ap (λ x. Some x) (sym of) ∙ is)))

-- and any other regular file is none of those
pub shown_regular : (w : Layout) (leads : List ℕ → Option ℕ) (path : List ℕ) (i : ℕ) (id : ℕ × ℕ) → IsFound w leads path (Some i) → id ≡ numbers i
    → (output_in w.others.items ≢ Some i → is_none (other_in w.others.items i) ≡ true) → Some id ≢ option_map numbers (output_in w.others.items)
    → IsOther w (over w leads) path → ⊥
shown_regular w leads path i id f of regular apart = found_regular w leads path i f
    (regular (λ is. apart (ap (λ x. Some x) of ∙ sym (ap (option_map numbers) is))))

-- the file that a path leads to
pub found_file : (w : Layout) (leads : List ℕ → Option ℕ) (path : List ℕ) (found : Option ℕ) → IsFound w leads path found → file_to w leads path ≡ found
found_file w leads path found f = ap (file_by w.folders.items leads) f.ended ∙ ap (file_at leads) f.placed ∙ f.there

pub held_of : (w : Layout) (calls : List Call) (path : List ℕ) (found : Option ℕ) → file_to w (leads_in calls) path ≡ found
    → held_at w calls path ≡ option_map (λ file. (holds_in calls file).bytes) found
held_of w calls path found is = ap (option_map (λ file. (holds_in calls file).bytes)) is
