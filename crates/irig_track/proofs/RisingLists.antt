-- Laws of a rising list of edges.
use Rattle.std.proofs.Common.{◌≡◌, ℕ, suc, zero, ◌+◌, ◌<◌, ◌≤◌, ◌≢◌, ◌==◌, true, false, cond, not, List, [], ◌∷◌, ◌++◌, refl, sym, ap, ◌∙◌, subst, ◌⊎◌, inl}
use Rattle.std.proofs.Common.{inr, arith}
use Rattle.std.proofs.lemmas.Bool.Decides.{nat_tests}
use Rattle.irig_recording.specs.Recording.{RisesFrom, UpTo}
use Rattle.irig_track.specs.{Edges.Under, Edges.has, Toggles.flipped}

pub three : (a b : ℕ) → (a < b) ⊎ ((a ≡ b) ⊎ (b < a))
three zero zero = inr (inl refl)
three zero (suc b) = inl (omega arith)
three (suc a) zero = inr (inr (omega arith))
three (suc a) (suc b) = elim (three a b) [ inl h ↦ inl (omega arith) | inr r ↦ elim r [ inl h ↦ inr (inl (ap suc h)) | inr h ↦ inr (inr (omega arith)) ] ]

pub flip_low : (t x : ℕ) (xs : List ℕ) → t < x → flipped t (x ∷ xs) ≡ t ∷ x ∷ xs
flip_low t x xs h = grind (arith, nat_tests)

pub flip_same : (t x : ℕ) (xs : List ℕ) → t ≡ x → flipped t (x ∷ xs) ≡ xs
flip_same t x xs h = grind (arith, nat_tests)

pub flip_high : (t x : ℕ) (xs : List ℕ) → x < t → flipped t (x ∷ xs) ≡ x ∷ flipped t xs
flip_high t x xs h = grind (arith, nat_tests)

pub rises_more : (low high : ℕ) (xs : List ℕ) → high ≤ low → RisesFrom low xs → RisesFrom high xs
rises_more low high [] le h = tt
rises_more low high (x ∷ xs) le h = (omega (arith, h.0), h.1)

-- the order is kept
pub RisesFrom-flipped : (low t : ℕ) (xs : List ℕ) → low ≤ t → RisesFrom low xs → RisesFrom low (flipped t xs)
RisesFrom-flipped low t [] le h = (le, tt)
RisesFrom-flipped low t (x ∷ xs) le h = elim (three t x) [
  | inl lt ↦ rw (flip_low t x xs lt) (le, (omega arith, h.1))
  | inr r ↦ elim r [
    | inl e ↦ rw (flip_same t x xs e) (rises_more (x + 1) low xs (omega (arith, h.0)) h.1)
    | inr gt ↦ rw (flip_high t x xs gt) (h.0, RisesFrom-flipped (x + 1) t xs (omega arith) h.1)
  ]
]

pub has_here : (x u : ℕ) (xs : List ℕ) → x ≡ u → has u (x ∷ xs) ≡ true
has_here x u xs e = grind (arith, nat_tests)

pub has_there : (x u : ℕ) (xs : List ℕ) → x ≢ u → has u (x ∷ xs) ≡ has u xs
has_there x u xs e = grind (arith, nat_tests)

pub has_none : (low u : ℕ) (xs : List ℕ) → RisesFrom low xs → u < low → has u xs ≡ false
has_none low u [] h lt = refl
has_none low u (x ∷ xs) h lt = has_there x u xs (omega (arith, h.0)) ∙ has_none (x + 1) u xs h.1 (omega (arith, h.0))

-- the membership of t alone is turned
pub has-flipped_same : (low t : ℕ) (xs : List ℕ) → RisesFrom low xs → has t (flipped t xs) ≡ not (has t xs)
has-flipped_same low t [] h = has_here t t [] refl
has-flipped_same low t (x ∷ xs) h = elim (three t x) [
  | inl lt ↦ ap (has t) (flip_low t x xs lt) ∙ has_here t t (x ∷ xs) refl ∙ ap not (sym (has_none (t + 1) t (x ∷ xs) (omega arith, h.1) (omega arith)))
  | inr r ↦ elim r [
    | inl e ↦ ap (has t) (flip_same t x xs e) ∙ has_none (x + 1) t xs h.1 (omega arith) ∙ ap not (sym (has_here x t xs (sym e)))
    | inr gt ↦ ap (has t) (flip_high t x xs gt) ∙ has_there x t (flipped t xs) (omega arith) ∙ has-flipped_same (x + 1) t xs h.1 ∙ ap not
        (sym (has_there x t xs (omega arith)))
  ]
]

pub has-flipped_other : (t u : ℕ) (xs : List ℕ) → t ≢ u → has u (flipped t xs) ≡ has u xs
has-flipped_other t u [] ne = has_there t u [] ne
has-flipped_other t u (x ∷ xs) ne = elim (three t x) [
  | inl lt ↦ ap (has u) (flip_low t x xs lt) ∙ has_there t u (x ∷ xs) ne
  | inr r ↦ elim r [
    | inl e ↦ ap (has u) (flip_same t x xs e) ∙ sym (has_there x u xs (subst (λ k. k ≢ u) e ne))
    | inr gt ↦ ap (has u) (flip_high t x xs gt) ∙ ap (λ b. cond (x == u) true b) (has-flipped_other t u xs ne)
  ]
]

pub UpTo-flipped : (high t : ℕ) (xs : List ℕ) → t ≤ high → UpTo high xs → UpTo high (flipped t xs)
UpTo-flipped high t [] le h = (le, tt)
UpTo-flipped high t (x ∷ xs) le h = elim (three t x) [
  | inl lt ↦ rw (flip_low t x xs lt) (le, h)
  | inr r ↦ elim r [
    | inl e ↦ rw (flip_same t x xs e) h.1
    | inr gt ↦ rw (flip_high t x xs gt) (h.0, UpTo-flipped high t xs le h.1)
  ]
]

pub flipped-past : (t : ℕ) (l ys : List ℕ) → Under t l → flipped t (l ++ ys) ≡ l ++ flipped t ys
flipped-past t [] ys h = refl
flipped-past t (x ∷ l) ys h = flip_high t x (l ++ ys) h.0 ∙ ap (λ zs. x ∷ zs) (flipped-past t l ys h.1)

pub Under-more : (t u : ℕ) (l : List ℕ) → t ≤ u → Under t l → Under u l
Under-more t u [] le h = tt
Under-more t u (x ∷ l) le h = (omega (arith, h.0), Under-more t u l le h.1)

pub rises_left : (low : ℕ) (xs ys : List ℕ) → RisesFrom low (xs ++ ys) → RisesFrom low xs
rises_left low [] ys h = tt
rises_left low (x ∷ xs) ys h = (h.0, rises_left (x + 1) xs ys h.1)

pub rises_right : (low : ℕ) (xs ys : List ℕ) → RisesFrom low (xs ++ ys) → RisesFrom low ys
rises_right low [] ys h = h
rises_right low (x ∷ xs) ys h = rises_more (x + 1) low ys (omega (arith, h.0)) (rises_right (x + 1) xs ys h.1)

pub under_next : (low y : ℕ) (xs ys : List ℕ) → RisesFrom low (xs ++ (y ∷ ys)) → Under y xs
under_next low y [] ys h = tt
under_next low y (x ∷ xs) ys h = (omega (arith, (rises_right (x + 1) xs (y ∷ ys) h.1).0), under_next (x + 1) y xs ys h.1)
