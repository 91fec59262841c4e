-- Lines that were counted: none, and one more.
use Rattle.std.proofs.Common.{◌≡◌, ◌++◌, ◌||◌, ◌+◌, ◌-◌, ◌^◌, [], ◌∷◌, ℕ, Bool, true, List, Option, Some, None, min, refl, ap, ◌∙◌, arith}
use Rattle.std.proofs.lemmas.List.Sums.{sum_by_push}
use Rattle.std.specs.List.{count_by, list_any}
use Rattle.std.specs.Prelude.{false, cond}
use Rattle.irig_stamps.specs.Tallies.{IsTally, add_one, no_tally}
use Rattle.irig_stamps.specs.Uneven.{first_of, headed, uneven_in, uneven_next, width_after}
use Rattle.irig_stamps.specs.{declared.look.Look.Look, declared.tally.Uneven.Uneven}

pub none-tallied : IsTally [] no_tally
none-tallied = record { lines = omega arith; timed = omega arith; unnumbered = omega arith; span = refl; width = refl; uneven = refl; other_unit = refl }

pub width-more : (width : Option ℕ) (xs : List Look) (x : Look) → width_after width (xs ++ x ∷ []) ≡ headed (width_after width xs) x
width-more width [] x = refl
width-more width (y ∷ xs) x = width-more (headed width y) xs x

first-both : (a b c : Option Uneven) → first_of a (first_of b c) ≡ first_of (first_of a b) c
first-both None b c = refl
first-both (Some a) b c = refl

last-none : (a : Option Uneven) → first_of a None ≡ a
last-none None = refl
last-none (Some a) = refl

pub uneven-more : (width : Option ℕ) (xs : List Look) (x : Look)
    → uneven_in width (xs ++ x ∷ []) ≡ first_of (uneven_in width xs) (uneven_next (width_after width xs) x)
uneven-more width [] x = last-none (uneven_next width x)
uneven-more width (y ∷ xs) x =
    ap (first_of (uneven_next width y)) (uneven-more (headed width y) xs x)
    ∙ first-both (uneven_next width y) (uneven_in (headed width y) xs) (uneven_next (width_after (headed width y) xs) x)

-- a count that stays at 2^64 - 1
capped-one : (b : Bool) (k l n m : ℕ) → l ≡ k + cond b 1 0 → n ≡ min k (2 ^ 64 - 1) → m ≡ add_one n b → m ≡ min l (2 ^ 64 - 1)
capped-one true k l n m e h g = omega (arith, e, h, g)
capped-one false k l n m e h g = omega (arith, e, h, g)

pub count-more : (p : Look → Bool) (xs : List Look) (x : Look) (n m : ℕ) → n ≡ min (count_by p xs) (2 ^ 64 - 1) → m ≡ add_one n (p x)
    → m ≡ min (count_by p (xs ++ x ∷ [])) (2 ^ 64 - 1)
count-more p xs x n m h g =
    capped-one (p x) (count_by p xs) (count_by p (xs ++ x ∷ [])) n m (sum_by_push (λ y. cond (p y) 1 0) xs x) h g

or-end : (b : Bool) → (b || false) ≡ (false || b)
or-end true = refl
or-end false = refl

or-both : (a b c : Bool) → (a || (b || c)) ≡ ((a || b) || c)
or-both true b c = refl
or-both false b c = refl

pub any-more : (p : Look → Bool) (xs : List Look) (x : Look) → list_any p (xs ++ x ∷ []) ≡ (list_any p xs || p x)
any-more p [] x = or-end (p x)
any-more p (y ∷ xs) x = ap (λ b. p y || b) (any-more p xs x) ∙ or-both (p y) (list_any p xs) (p x)
