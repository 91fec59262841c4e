-- Symmetric differences of rising lists, from their first numbers on.
use Rattle.std.proofs.Common.{◌≡◌, ℕ, ◌+◌, ◌<◌, ◌≤◌, Bool, true, false, not, List, [], ◌∷◌, refl, sym, ap, ◌∙◌, arith, inl, inr}
use Rattle.std.proofs.Math.Bool.{not-not}
use Rattle.irig_recording.specs.Recording.{RisesFrom, UpTo, is_even_long}
use Rattle.irig_track.specs.Toggles.{flipped}
use Rattle.irig_track.proofs.RisingLists.{three, flip_low, flip_same, flip_high, rises_more, RisesFrom-flipped, UpTo-flipped}
use Rattle.irig_difference.specs.Flips.{flips}

-- a number below a rising list comes to its front
pub flipped_front : (t : ℕ) (xs : List ℕ) → RisesFrom (t + 1) xs → flipped t xs ≡ t ∷ xs
flipped_front t [] h = refl
flipped_front t (x ∷ xs) h = flip_low t x xs (omega (arith, h.0))

-- a number below all that are flipped stays in front
pub flips_front : (t : ℕ) (ts xs : List ℕ) → RisesFrom (t + 1) ts → flips ts (t ∷ xs) ≡ t ∷ flips ts xs
flips_front t [] xs h = refl
flips_front t (u ∷ ts) xs h =
    ap (flips ts) (flip_high u t xs (omega (arith, h.0)))
    ∙ flips_front t ts (flipped u xs) (rises_more (u + 1) (t + 1) ts (omega (arith, h.0)) h.1)

-- a number in both goes
pub flips_both : (t u : ℕ) (ts xs : List ℕ) → t ≡ u → flips (u ∷ ts) (t ∷ xs) ≡ flips ts xs
flips_both t u ts xs e = ap (flips ts) (flip_same u t xs (sym e))

-- a number that only the second has, below the first
pub flips_second : (t low : ℕ) (ts xs : List ℕ) → t < low → RisesFrom low ts → flips ts (t ∷ xs) ≡ t ∷ flips ts xs
flips_second t low ts xs lt h = flips_front t ts xs (rises_more low (t + 1) ts (omega arith) h)

-- a number that only the first has, below the second
pub flips_first : (t low : ℕ) (ts xs : List ℕ) → t < low → RisesFrom (t + 1) ts → RisesFrom low xs → flips (t ∷ ts) xs ≡ t ∷ flips ts xs
flips_first t low ts xs lt h i =
    ap (flips ts) (flipped_front t xs (rises_more low (t + 1) xs (omega arith) i)) ∙ flips_front t ts xs h

pub RisesFrom-flips : (ts xs : List ℕ) → RisesFrom 0 xs → RisesFrom 0 (flips ts xs)
RisesFrom-flips [] xs h = h
RisesFrom-flips (t ∷ ts) xs h = RisesFrom-flips ts (flipped t xs) (RisesFrom-flipped 0 t xs (omega arith) h)

pub UpTo-flips : (top : ℕ) (ts xs : List ℕ) → UpTo top ts → UpTo top xs → UpTo top (flips ts xs)
UpTo-flips top [] xs h i = i
UpTo-flips top (t ∷ ts) xs h i = UpTo-flips top ts (flipped t xs) h.1 (UpTo-flipped top t xs h.0 i)

pub UpTo-more : (low high : ℕ) (xs : List ℕ) → low ≤ high → UpTo low xs → UpTo high xs
UpTo-more low high [] le h = tt
UpTo-more low high (x ∷ xs) le h = (omega (arith, h.0), UpTo-more low high xs le h.1)

even-flipped : (t : ℕ) (xs : List ℕ) → is_even_long (flipped t xs) ≡ not (is_even_long xs)
even-flipped t [] = refl
even-flipped t (x ∷ xs) = elim (three t x) [
  | inl lt ↦ ap is_even_long (flip_low t x xs lt)
  | inr r ↦ elim r [
    | inl e ↦ ap is_even_long (flip_same t x xs e) ∙ sym (not-not (is_even_long xs))
    | inr gt ↦ ap is_even_long (flip_high t x xs gt) ∙ ap not (even-flipped t xs)
  ]
]

-- the parity of a symmetric difference
same_parity : (b : Bool) (ts xs : List ℕ) → is_even_long xs ≡ b → is_even_long ts ≡ b → is_even_long (flips ts xs) ≡ true
same_parity true [] xs h i = h
same_parity false [] xs h i = absurd (cc)
same_parity b (t ∷ ts) xs h i = same_parity (not b) ts (flipped t xs) (even-flipped t xs ∙ ap not h) (sym (not-not (is_even_long ts)) ∙ ap not i)

pub even-flips : (ts xs : List ℕ) → is_even_long xs ≡ true → is_even_long ts ≡ true → is_even_long (flips ts xs) ≡ true
even-flips ts xs h i = same_parity true ts xs h i
