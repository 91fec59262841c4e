-- Paths by the ids of their files, and what writes at one of them leave at the other.
use Rattle.std.proofs.Common.{◌≡◌, ◌≢◌, ◌∙◌, ◌&&◌, inl, inr, ⊎_elim, refl, sym, ap, true, nat_eq, ℕ, List, [], ◌∷◌, Option, Some, None, option_map}
use Rattle.std.proofs.lemmas.Bool.{and_parts, eqb-true}
use Rattle.irig_disk.specs.{Disk.Disk, Disk.MayLeave, Held.Held}
use Rattle.irig_files.specs.Apart.{AreApart, HasId, LeadToOneFile, StaysAt}
use Rattle.irig_files.specs.{Goes.Goes, Writes.AreAt, Writes.IsLeftBy, Writes.Write}

with_id : (id_of : ℕ → ℕ × ℕ) (found : Option ℕ) (id : ℕ × ℕ) → Some id ≡ option_map id_of found → (file : ℕ) × (found ≡ Some file) × (id ≡ id_of file)
with_id id_of None id is = absurd (cc is)
with_id id_of (Some file) id is = (file, refl, cc is)

-- two files with one id are one
pub one_by_ids : (disk : Disk) (id_of : ℕ → ℕ × ℕ) (one other : List ℕ) (a b : ℕ × ℕ) → ((f g : ℕ) → id_of f ≡ id_of g → f ≡ g)
    → HasId disk id_of one (Some a) → HasId disk id_of other (Some b) → (nat_eq a.0 b.0 && nat_eq a.1 b.1) ≡ true → LeadToOneFile disk one other
one_by_ids disk id_of one other a b ids_differ has has' same p q at at' =
    let both = and_parts (nat_eq a.0 b.0) (nat_eq a.1 b.1) same in
    let is : a ≡ b = λ j. (eqb-true a.0 b.0 both.0 j, eqb-true a.1 b.1 both.1 j) in
    let f = with_id id_of (disk.leads p) a (has p at) in
    let g = with_id id_of (disk.leads q) b (has' q at') in
    (f.0, f.1, g.1 ∙ ap (λ file. Some file) (ids_differ g.0 f.0 (sym g.2 ∙ sym is ∙ f.2)))

left_at : (place : List ℕ) (c : Option Held) (target : Option (List ℕ)) (ws : List Write) → AreAt target ws → IsLeftBy ws place c → Some place ≡ target
left_at place c target [] at l = absurd l
left_at place c target (w ∷ ws) at (inl here) = ap (λ p. Some p) (sym here.0) ∙ at.0
left_at place c target (w ∷ ws) at (inr later) = left_at place c target ws at.1 later

file_there : (found : Option ℕ) → found ≢ None → (file : ℕ) × (found ≡ Some file)
file_there None is = absurd (is refl)
file_there (Some file) is = (file, refl)

-- writes at another place leave a file as it was
pub stays_apart : (old new : Disk) (path out : List ℕ) → Goes old new (old.paths out) → AreApart old path out → StaysAt old new path
stays_apart old new path out goes apart place c at there left = ⊎_elim (λ was. was)
    (λ by. let file = file_there (old.leads place) there in
    absurd (apart place place at (sym (left_at place c (old.paths out) _ goes.at_target by)) (file.0, file.1, file.1)))
    (goes.any_moment place c (inl there) left)

-- and so does a state that is the same
pub stays_here : (at : Disk) (path : List ℕ) → ((n : List ℕ) (c : Option Held) → at.left_since at.moment n c → MayLeave at n c) → StaysAt at at path
stays_here at path now place c there is left = now place c left
