-- Symmetric differences of rising lists, as sets.
use Rattle.std.proofs.Common.{◌≡◌, ℕ, ◌+◌, ◌≤◌, Bool, true, false, not, List, [], ◌∷◌, length, refl, sym, ap, ◌∙◌, arith, inl, inr, subst}
use Rattle.std.proofs.lemmas.Bool.{cases_eq}
use Rattle.irig_recording.specs.Recording.{RisesFrom}
use Rattle.irig_track.specs.{Edges.has, Toggles.flipped}
use Rattle.irig_track.proofs.RisingLists.{three, flip_low, flip_same, flip_high, has_here, has_there, has_none, has-flipped_same, has-flipped_other}
use Rattle.irig_track.proofs.RisingLists.{RisesFrom-flipped}
use Rattle.irig_track.proofs.Sets.{only_list}
use Rattle.irig_difference.specs.Flips.{unlike, flips}
use Rattle.irig_difference.proofs.FlipLists.{RisesFrom-flips}

unlike_none : (v w : Bool) → v ≡ false → unlike v w ≡ w
unlike_none true w e = absurd (cc)
unlike_none false w e = refl

-- by membership a list that is flipped is one that just one of both has
pub has-flips : (low u : ℕ) (ts xs : List ℕ) → RisesFrom low ts → RisesFrom 0 xs → has u (flips ts xs) ≡ unlike (has u ts) (has u xs)
has-flips low u [] xs h i = refl
has-flips low u (t ∷ ts) xs h i =
    has-flips (t + 1) u ts (flipped t xs) h.1 (RisesFrom-flipped 0 t xs (omega arith) i)
    ∙ elim (cases_eq t u) [
      | inl e ↦ (
          let none : has u ts ≡ false = has_none (t + 1) u ts h.1 (omega arith) in
          let turned : has u (flipped t xs) ≡ not (has u xs) = subst (λ k. has k (flipped t xs) ≡ not (has k xs)) e (has-flipped_same 0 t xs i) in
          unlike_none (has u ts) (has u (flipped t xs)) none ∙ turned ∙ sym (ap (λ v. unlike v (has u xs)) (has_here t u ts e)))
      | inr n ↦ ap (unlike (has u ts)) (has-flipped_other t u xs n) ∙ sym (ap (λ v. unlike v (has u xs)) (has_there t u ts n))
    ]

unlike_twice : (v w : Bool) → unlike (unlike v w) w ≡ v
unlike_twice true true = refl
unlike_twice true false = refl
unlike_twice false true = refl
unlike_twice false false = refl

-- the symmetric difference leads from the one to the other
pub flips-flips : (ts xs : List ℕ) → RisesFrom 0 ts → RisesFrom 0 xs → flips (flips ts xs) xs ≡ ts
flips-flips ts xs h i =
    let r : RisesFrom 0 (flips ts xs) = RisesFrom-flips ts xs i in
    only_list 0 (flips (flips ts xs) xs) ts (RisesFrom-flips (flips ts xs) xs i) h
    (λ u. has-flips 0 u (flips ts xs) xs r i ∙ ap (λ v. unlike v (has u xs)) (has-flips 0 u ts xs h i) ∙ unlike_twice (has u ts) (has u xs))

unlike_same : (v : Bool) → unlike v v ≡ false
unlike_same true = refl
unlike_same false = refl

-- no number is in just one of two equal lists
pub flips-same : (xs : List ℕ) → RisesFrom 0 xs → flips xs xs ≡ []
flips-same xs h = only_list 0 (flips xs xs) [] (RisesFrom-flips xs xs h) tt (λ u. has-flips 0 u xs xs h h ∙ unlike_same (has u xs))

unlike_not : (v w : Bool) → unlike v (not w) ≡ not (unlike v w)
unlike_not true true = refl
unlike_not true false = refl
unlike_not false w = refl

-- to flip a number of the second is to flip it in the symmetric difference
pub flips-flipped : (t : ℕ) (ts xs : List ℕ) → RisesFrom 0 ts → RisesFrom 0 xs → flips ts (flipped t xs) ≡ flipped t (flips ts xs)
flips-flipped t ts xs h i =
    let once : RisesFrom 0 (flipped t xs) = RisesFrom-flipped 0 t xs (omega arith) i in
    let r : RisesFrom 0 (flips ts xs) = RisesFrom-flips ts xs i in
    only_list 0 (flips ts (flipped t xs)) (flipped t (flips ts xs)) (RisesFrom-flips ts (flipped t xs) once)
    (RisesFrom-flipped 0 t (flips ts xs) (omega arith) r)
    (λ u. has-flips 0 u ts (flipped t xs) h once ∙ elim (cases_eq t u) [
      | inl e ↦ subst (λ k. unlike (has k ts) (has k (flipped t xs)) ≡ has k (flipped t (flips ts xs))) e
          (ap (unlike (has t ts)) (has-flipped_same 0 t xs i) ∙ unlike_not (has t ts) (has t xs)
          ∙ sym (has-flipped_same 0 t (flips ts xs) r ∙ ap not (has-flips 0 t ts xs h i)))
      | inr n ↦ ap (unlike (has u ts)) (has-flipped_other t u xs n) ∙ sym (has-flipped_other t u (flips ts xs) n ∙ has-flips 0 u ts xs h i)
    ])

length-flipped_least : (t : ℕ) (xs : List ℕ) → length xs ≤ length (flipped t xs) + 1
length-flipped_least t [] = omega arith
length-flipped_least t (x ∷ xs) = elim (three t x) [
  | inl lt ↦ omega (arith, ap length (flip_low t x xs lt))
  | inr r ↦ elim r [
    | inl e ↦ omega (arith, ap length (flip_same t x xs e))
    | inr gt ↦ omega (arith, ap length (flip_high t x xs gt), length-flipped_least t xs)
  ]
]

pub length-flipped_most : (t : ℕ) (xs : List ℕ) → length (flipped t xs) ≤ length xs + 1
length-flipped_most t [] = omega arith
length-flipped_most t (x ∷ xs) = elim (three t x) [
  | inl lt ↦ omega (arith, ap length (flip_low t x xs lt))
  | inr r ↦ elim r [
    | inl e ↦ omega (arith, ap length (flip_same t x xs e))
    | inr gt ↦ omega (arith, ap length (flip_high t x xs gt), length-flipped_most t xs)
  ]
]

-- a number that is flipped brings two lists closer by one at most
pub length-flips_least : (t : ℕ) (ts xs : List ℕ) → RisesFrom 0 ts → RisesFrom 0 xs → length (flips ts xs) ≤ length (flips ts (flipped t xs)) + 1
length-flips_least t ts xs h i = omega (arith, ap length (flips-flipped t ts xs h i), length-flipped_least t (flips ts xs))
