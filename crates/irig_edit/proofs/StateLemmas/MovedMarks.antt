-- Marks moved one after the other.
use Rattle.std.proofs.Common.{◌≡◌, ◌≤◌, ◌<◌, ◌+◌, ℕ, ℤ, suc, zero, Bool, true, false, ◌&&◌, nat_le, List, [], ◌∷◌, length, map, slice_set, get_or, Option, Some}
use Rattle.std.proofs.Common.{None, refl, ap, subst, ◌∙◌, arith}
use Rattle.std.proofs.lemmas.Bool.Decides.{nat_tests}
use Rattle.irig_track.specs.Shifts.{ahead, back}
use Rattle.irig_edit.specs.State.Marks.{AllMayMove, MayMove, marks_moved, moved_if, moved_mark, stands}

module _ {A B : Type 0} where
  -- the second list with its first items rebuilt from those of both
  abbrev pub made_first : (A → B → B) → ℕ → List A → List B → List B
  made_first make zero xs ys = ys
  made_first make (suc n) [] ys = ys
  made_first make (suc n) (x ∷ xs) [] = []
  made_first make (suc n) (x ∷ xs) (y ∷ ys) = make x y ∷ made_first make n xs ys

  -- what is at the next place is not made yet
  pub made_first-next : (make : A → B → B) (n : ℕ) (xs : List A) (ys : List B) (d : B) → get_or (made_first make n xs ys) n d ≡ get_or ys n d
  made_first-next make zero xs ys d = refl
  made_first-next make (suc n) [] ys d = refl
  made_first-next make (suc n) (x ∷ xs) [] d = refl
  made_first-next make (suc n) (x ∷ xs) (y ∷ ys) d = made_first-next make n xs ys d

  one_more : (make : A → B → B) (n : ℕ) (xs : List A) (ys : List B) (c : A) (d : B) → n < length xs → n < length ys
      → slice_set (made_first make n xs ys) n (make (get_or xs n c) (get_or ys n d)) ≡ made_first make (suc n) xs ys
  one_more make n [] ys c d less there = absurd (omega (arith, less))
  one_more make n (x ∷ xs) [] c d less there = absurd (omega (arith, there))
  one_more make zero (x ∷ xs) (y ∷ ys) c d less there = refl
  one_more make (suc n) (x ∷ xs) (y ∷ ys) c d less there = ap (λ zs. make x y ∷ zs) (one_more make n xs ys c d (omega (arith, less)) (omega (arith, there)))

  -- one more item made
  pub made_first-more : (make : A → B → B) (n : ℕ) (xs : List A) (now ys : List B) (c : A) (d v : B) → now ≡ made_first make n xs ys
      → n < length xs → n < length ys → v ≡ make (get_or xs n c) (get_or now n d) → slice_set now n v ≡ made_first make (n + 1) xs ys
  made_first-more make n xs now ys c d v is less there made =
      let up : suc n ≡ n + 1 = omega arith in
      let value : v ≡ make (get_or xs n c) (get_or ys n d) =
      made ∙ ap (λ (zs : List B). make (get_or xs n c) (get_or zs n d)) is ∙ ap (make (get_or xs n c)) (made_first-next make n xs ys d) in
      ap (λ (zs : List B). slice_set zs n v) is
      ∙ ap (λ (w : B). slice_set (made_first make n xs ys) n w) value
      ∙ one_more make n xs ys c d less there ∙ ap (λ k. made_first make k xs ys) up

-- all marks moved
pub moved_all : (d : ℤ) (n : ℕ) (named : List Bool) (marks : List (Option ℕ)) → length named ≤ n
    → made_first (moved_if d) n named marks ≡ marks_moved d named marks
moved_all d zero [] marks all = refl
moved_all d (suc n) [] marks all = refl
moved_all d zero (b ∷ named) marks all = absurd (omega (arith, all))
moved_all d (suc n) (b ∷ named) [] all = refl
moved_all d (suc n) (b ∷ named) (m ∷ marks) all = ap (λ ms. moved_if d b m ∷ ms) (moved_all d n named marks (omega (arith, all)))

-- whether a mark is in a stretch, whatever was said of it before
abbrev pub stands_now : ℕ → ℕ → Option ℕ → Bool → Bool
stands_now low high mark before = stands low high mark

-- all letters
pub told_all : (low high n : ℕ) (marks : List (Option ℕ)) (letters : List Bool) → length marks ≤ n → length letters ≡ length marks
    → made_first (stands_now low high) n marks letters ≡ map (stands low high) marks
told_all low high zero [] [] all same = refl
told_all low high zero [] (l ∷ letters) all same = absurd (omega (arith, same))
told_all low high (suc n) [] [] all same = refl
told_all low high (suc n) [] (l ∷ letters) all same = absurd (omega (arith, same))
told_all low high zero (m ∷ marks) letters all same = absurd (omega (arith, all))
told_all low high (suc n) (m ∷ marks) [] all same = absurd (omega (arith, same))
told_all low high (suc n) (m ∷ marks) (l ∷ letters) all same =
    ap (λ ls. stands low high m ∷ ls) (told_all low high n marks letters (omega (arith, all)) (omega (arith, same)))

-- the first of the marks named may be moved
abbrev pub FirstMayMove : ℕ → ℤ → ℕ → List Bool → List (Option ℕ) → Type 0
FirstMayMove micros d zero named marks = Unit {0}
FirstMayMove micros d (suc n) [] marks = Unit {0}
FirstMayMove micros d (suc n) (named ∷ more) [] = Unit {0}
FirstMayMove micros d (suc n) (true ∷ more) (mark ∷ marks) = MayMove micros d mark × FirstMayMove micros d n more marks
FirstMayMove micros d (suc n) (false ∷ more) (mark ∷ marks) = FirstMayMove micros d n more marks

pub may_more : (micros : ℕ) (d : ℤ) (n : ℕ) (named : List Bool) (marks : List (Option ℕ)) → n < length named → n < length marks
    → FirstMayMove micros d n named marks → (get_or named n false ≡ true → MayMove micros d (get_or marks n None)) → FirstMayMove micros d (n + 1) named marks
may_more micros d n named marks less there first next =
    let up : suc n ≡ n + 1 = omega arith in
    subst (λ k. FirstMayMove micros d k named marks) up (at_suc n named marks less there first next) where
      at_suc : (n : ℕ) (named : List Bool) (marks : List (Option ℕ)) → n < length named → n < length marks
          → FirstMayMove micros d n named marks → (get_or named n false ≡ true → MayMove micros d (get_or marks n None))
          → FirstMayMove micros d (suc n) named marks
      at_suc n [] marks less there first next = tt
      at_suc n (b ∷ named) [] less there first next = tt
      at_suc zero (true ∷ named) (m ∷ marks) less there first next = (next refl, tt)
      at_suc zero (false ∷ named) (m ∷ marks) less there first next = tt
      at_suc (suc n) (true ∷ named) (m ∷ marks) less there first next =
          (first.0, at_suc n named marks (omega (arith, less)) (omega (arith, there)) first.1 next)
      at_suc (suc n) (false ∷ named) (m ∷ marks) less there first next = at_suc n named marks (omega (arith, less)) (omega (arith, there)) first next

pub may_all : (micros : ℕ) (d : ℤ) (n : ℕ) (named : List Bool) (marks : List (Option ℕ)) → length named ≤ n → FirstMayMove micros d n named marks
    → AllMayMove micros d named marks
may_all micros d n [] marks all first = tt
may_all micros d n (b ∷ named) [] all first = tt
may_all micros d zero (b ∷ named) (m ∷ marks) all first = absurd (omega (arith, all))
may_all micros d (suc n) (true ∷ named) (m ∷ marks) all first = (first.0, may_all micros d n named marks (omega (arith, all)) first.1)
may_all micros d (suc n) (false ∷ named) (m ∷ marks) all first = may_all micros d n named marks (omega (arith, all)) first

pub may_one : (micros : ℕ) (d : ℤ) (n : ℕ) (named : List Bool) (marks : List (Option ℕ)) → n < length named → n < length marks
    → AllMayMove micros d named marks → get_or named n false ≡ true → MayMove micros d (get_or marks n None)
may_one micros d n [] marks less there all is = absurd (omega (arith, less))
may_one micros d n (b ∷ named) [] less there all is = absurd (omega (arith, there))
may_one micros d zero (true ∷ named) (m ∷ marks) less there all is = all.0
may_one micros d zero (false ∷ named) (m ∷ marks) less there all is = let bad : false ≡ true = is in cc
may_one micros d (suc n) (true ∷ named) (m ∷ marks) less there all is = may_one micros d n named marks (omega (arith, less)) (omega (arith, there)) all.1 is
may_one micros d (suc n) (false ∷ named) (m ∷ marks) less there all is = may_one micros d n named marks (omega (arith, less)) (omega (arith, there)) all is

-- a shift moves the marks from a time to another
pub moved_between : (low high : ℕ) (d : ℤ) (marks : List (Option ℕ)) → marks_moved d (map (stands low high) marks) marks ≡ map (moved_mark low high d) marks
moved_between low high d [] = refl
moved_between low high d (m ∷ marks) = ap (λ ms. moved_mark low high d m ∷ ms) (moved_between low high d marks)

-- and they may be moved if the stretch stays within the track
pub may_between : (micros low high : ℕ) (d : ℤ) (marks : List (Option ℕ)) → back d ≤ low + ahead d → high + ahead d ≤ micros + back d
    → AllMayMove micros d (map (stands low high) marks) marks
may_between micros low high d [] early late = tt
may_between micros low high d (None ∷ marks) early late = may_between micros low high d marks early late
may_between micros low high d (Some t ∷ marks) early late =
    by_test (nat_le low t && nat_le t high) refl (may_between micros low high d marks early late) where
      by_test : (v : Bool) → (nat_le low t && nat_le t high) ≡ v → AllMayMove micros d (map (stands low high) marks) marks
          → AllMayMove micros d (v ∷ map (stands low high) marks) (Some t ∷ marks)
      by_test false is rest = rest
      by_test true is rest =
          let after : low ≤ t = from (nat_le t high) is in
          let upto : t ≤ high = up_to (nat_le low t) is in
          ((omega arith, omega arith), rest) where
            from : (w : Bool) → (nat_le low t && w) ≡ true → low ≤ t
            from w h = grind (arith, nat_tests)

            up_to : (w : Bool) → (w && nat_le t high) ≡ true → t ≤ high
            up_to false h = let bad : false ≡ true = h in cc
            up_to true h = grind (arith, nat_tests)
