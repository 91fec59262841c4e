-- Lists of writes, and of what was done to the names.
use Rattle.std.proofs.Common.{◌≡◌, inl, inr, refl, ◌∙◌, ℕ, List, [], ◌∷◌, ◌++◌, Option, Some, None}
use Rattle.irig_disk.specs.Trail.{Step, Moved, NotMoved, Synced}
use Rattle.irig_disk.specs.{Held.Held}
use Rattle.irig_files.specs.Writes.{Write, write, kept_by, writes_in, IsLeftBy, AreAt}

kept_by_more : (xs ys : List Step) → kept_by ys ≡ None → kept_by (xs ++ ys) ≡ kept_by xs
kept_by_more [] ys none = none
kept_by_more (Synced m ∷ xs) ys none = refl
kept_by_more (Moved p h ∷ xs) ys none = refl
kept_by_more (NotMoved p h ∷ xs) ys none = refl

pub writes_more : (xs ys : List Step) → kept_by ys ≡ None
    → writes_in (xs ++ ys) ≡ writes_in xs ++ writes_in ys
writes_more [] ys none = refl
writes_more (Moved p (Some h) ∷ xs) ys none =
    λ j. write p h (kept_by_more xs ys none j) ∷ writes_more xs ys none j
writes_more (NotMoved p (Some h) ∷ xs) ys none = λ j. write p h None ∷ writes_more xs ys none j
writes_more (Moved p None ∷ xs) ys none = writes_more xs ys none
writes_more (NotMoved p None ∷ xs) ys none = writes_more xs ys none
writes_more (Synced m ∷ xs) ys none = writes_more xs ys none

pub begins_more : (xs ys : List Step) → kept_by xs ≡ None → kept_by ys ≡ None
    → kept_by (xs ++ ys) ≡ None
begins_more xs ys none_x none_y = kept_by_more xs ys none_y ∙ none_x

pub left_front : (xs ys : List Write) (place : List ℕ) (c : Option Held) → IsLeftBy xs place c
    → IsLeftBy (xs ++ ys) place c
left_front [] ys place c l = absurd l
left_front (x ∷ xs) ys place c (inl here) = inl here
left_front (x ∷ xs) ys place c (inr later) = inr (left_front xs ys place c later)

pub left_back : (xs ys : List Write) (place : List ℕ) (c : Option Held) → IsLeftBy ys place c
    → IsLeftBy (xs ++ ys) place c
left_back [] ys place c l = l
left_back (x ∷ xs) ys place c l = inr (left_back xs ys place c l)

pub at_both : (place : Option (List ℕ)) (xs ys : List Write) → AreAt place xs → AreAt place ys
    → AreAt place (xs ++ ys)
at_both place [] ys all more = more
at_both place (x ∷ xs) ys all more = (all.0, at_both place xs ys all.1 more)
