-- The frames of two recordings by their places, one place after the other.
use Rattle.std.proofs.Common.{◌≡◌, ◌≢◌, ℕ, zero, suc, ◌+◌, ◌<◌, ◌≤◌, ◌==◌, ◌++◌, ◌∙◌, Bool, true, false, cond, nat_lt, List, [], ◌∷◌, map, drop, Option, Some, None}
use Rattle.std.proofs.Common.{refl, sym, ap, subst, inl, inr, arith, filter, length, length-append, slice_get}
use Rattle.std.proofs.lemmas.{Bool.Decides.nat_tests, Bool.cases_lt, Bool.eq-eqb, Bool.ne_eqb, List.length-map}
use Rattle.irig_recording.proofs.Items.{drop-item}
use Rattle.irig_comments.specs.{declared.shown.Shown.Shown, declared.sides.Sides.Sides}
use Rattle.irig_comments.specs.Framed.{FramesRise}
use Rattle.irig_comments.specs.Sides.{at_place, begun_after, begun_before, differs, made, sides, sides_of}

pub is_below : (a b : ℕ) → a < b → nat_lt a b ≡ true
is_below a b h = grind (arith, nat_tests)

pub is_from : (a b : ℕ) → b ≤ a → nat_lt a b ≡ false
is_from a b h = grind (arith, nat_tests)

pub is_other : (a b : ℕ) → a ≢ b → (a == b) ≡ false
is_other a b h = ne_eqb a b h

pub rise_more : (m low : ℕ) (ss : List Shown) → low ≤ m → FramesRise m ss → FramesRise low ss
rise_more m low [] le h = tt
rise_more m low (s ∷ ss) le h = (omega (arith, le, h.0), h.1)

pub rise-drop : (k low : ℕ) (ss : List Shown) → FramesRise low ss → FramesRise low (drop k ss)
rise-drop zero low ss h = h
rise-drop (suc k) low [] h = tt
rise-drop (suc k) low (s ∷ ss) h = rise_more (s.rise + 1) low (drop k ss) (omega (arith, h.0)) (rise-drop k (s.rise + 1) ss h.1)

pub none_before : (t low : ℕ) (ys : List Shown) → FramesRise low ys → t ≤ low → begun_before t ys ≡ []
none_before t low [] h le = refl
none_before t low (y ∷ ys) h le =
    ap (λ v. cond v (y ∷ begun_before t ys) (begun_before t ys)) (is_from y.rise t (omega (arith, h.0, le)))
    ∙ none_before t (y.rise + 1) ys h.1 (omega (arith, h.0, le))

pub none_at : (t low : ℕ) (ys : List Shown) → FramesRise low ys → t < low → at_place t ys ≡ None
none_at t low [] h lt = refl
none_at t low (y ∷ ys) h lt =
    ap (λ v. cond v (Some y) (at_place t ys)) (is_other y.rise t (λ e. omega (arith, h.0, lt, e))) ∙ none_at t (y.rise + 1) ys h.1 (omega (arith, h.0, lt))

pub all_after : (t low : ℕ) (ys : List Shown) → FramesRise low ys → t < low → begun_after t ys ≡ ys
all_after t low [] h lt = refl
all_after t low (y ∷ ys) h lt =
    ap (λ v. cond v (y ∷ begun_after t ys) (begun_after t ys)) (is_below t y.rise (omega (arith, h.0, lt)))
    ∙ ap (λ (l : List Shown). y ∷ l) (all_after t (y.rise + 1) ys h.1 (omega (arith, h.0, lt)))

-- the next frame after comes before the next one before
pub step_made : (x y : Shown) (xs ys : List Shown) → y.rise < x.rise → sides_of (x ∷ xs) (y ∷ ys) ≡ made y ∷ sides_of (x ∷ xs) ys
step_made x y xs ys lt =
    let a = is_below y.rise x.rise lt in
    let b = is_other y.rise x.rise (λ e. omega (arith, lt, e)) in
    let c = is_from x.rise y.rise (omega (arith, lt)) in
    (λ j. map made (cond (a j) (y ∷ begun_before x.rise ys) (begun_before x.rise ys))
    ++ sides (Some x) (cond (b j) (Some y) (at_place x.rise ys)) ∷ sides_of xs (cond (c j) (y ∷ begun_after x.rise ys) (begun_after x.rise ys)))

-- it comes after it
pub step_lost : (x y : Shown) (xs ys : List Shown) → x.rise < y.rise → FramesRise y.rise (y ∷ ys)
    → sides_of (x ∷ xs) (y ∷ ys) ≡ sides (Some x) None ∷ sides_of xs (y ∷ ys)
step_lost x y xs ys lt h =
    let a = none_before x.rise y.rise (y ∷ ys) h (omega (arith, lt)) in
    let b = none_at x.rise y.rise (y ∷ ys) h lt in
    let c = all_after x.rise y.rise (y ∷ ys) h lt in
    (λ j. map made (a j) ++ sides (Some x) (b j) ∷ sides_of xs (c j))

-- both begin at one place
pub step_both : (x y : Shown) (xs ys : List Shown) → x.rise ≡ y.rise → FramesRise y.rise (y ∷ ys)
    → sides_of (x ∷ xs) (y ∷ ys) ≡ sides (Some x) (Some y) ∷ sides_of xs ys
step_both x y xs ys same h =
    let a = none_before x.rise y.rise (y ∷ ys) h (omega (arith, same)) in
    let b = ap (λ v. cond v (Some y) (at_place x.rise ys)) (eq-eqb y.rise x.rise (sym same)) in
    let c = ap (λ v. cond v (y ∷ begun_after x.rise ys) (begun_after x.rise ys)) (is_from x.rise y.rise (omega (arith, same)))
    ∙ all_after x.rise (y.rise + 1) ys h.1 (omega (arith, same)) in
    (λ j. map made (a j) ++ sides (Some x) (b j) ∷ sides_of xs (c j))

length-filter-le : {X : Type 0} (test : X → Bool) (xs : List X) → length (filter test xs) ≤ length xs
length-filter-le test [] = omega arith
length-filter-le test (x ∷ xs) = elim (test x) as (λ v. length (cond v (x ∷ filter test xs) (filter test xs)) ≤ suc (length xs)) [
  | true ↦ omega (arith, length-filter-le test xs)
  | false ↦ omega (arith, length-filter-le test xs)
]

parted : (t : ℕ) (ys : List Shown) → length (begun_before t ys) + length (begun_after t ys) ≤ length ys
parted t [] = omega arith
parted t (y ∷ ys) = elim (cases_lt y.rise t) [
  | inl less ↦
      omega (
        arith,
        ap (λ v. length (cond v (y ∷ begun_before t ys) (begun_before t ys))) (is_below y.rise t less),
        ap (λ v. length (cond v (y ∷ begun_after t ys) (begun_after t ys))) (is_from t y.rise (omega (arith, less))),
        parted t ys,
      )
  | inr more ↦
      omega (
        arith,
        ap (λ v. length (cond v (y ∷ begun_before t ys) (begun_before t ys))) (is_from y.rise t more),
        length-filter-le (λ (s : Shown). nat_lt t s.rise) (y ∷ []),
        one (nat_lt t y.rise),
        parted t ys,
      )
]
  where
    one : (v : Bool) → length (cond v (y ∷ begun_after t ys) (begun_after t ys)) ≤ suc (length (begun_after t ys))
    one true = omega arith
    one false = omega arith

length-sides_of : (xs ys : List Shown) → length (sides_of xs ys) ≤ length xs + length ys
length-sides_of [] ys = omega (arith, length-map ys made)
length-sides_of (x ∷ xs) ys =
    let rest = sides_of xs (begun_after x.rise ys) in
    omega (
      arith,
      length-append (map made (begun_before x.rise ys)) (sides (Some x) (at_place x.rise ys) ∷ rest),
      length-map (begun_before x.rise ys) made,
      length-sides_of xs (begun_after x.rise ys),
      parted x.rise ys,
    )

-- there are no more changes than frames
pub few_changes : (xs ys : List Shown) → length (filter differs (sides_of xs ys)) ≤ length xs + length ys
few_changes xs ys = omega (arith, length-filter-le differs (sides_of xs ys), length-sides_of xs ys)

drop-none : (xs : List Shown) (k : ℕ) → slice_get xs k ≡ None → drop k xs ≡ []
drop-none [] zero h = refl
drop-none [] (suc k) h = refl
drop-none (x ∷ xs) zero h = absurd (cc)
drop-none (x ∷ xs) (suc k) h = drop-none xs k h

module _ (xs ys : List Shown) (i j : ℕ) (old : List Sides) (r s : Option Shown) (was : sides_of (drop i xs) (drop j ys) ≡ old)
    (first : r ≡ slice_get xs i) (second : s ≡ slice_get ys j) where
  -- there is no more on either side
  pub next_none : r ≡ None → s ≡ None → old ≡ []
  next_none a b =
      let x = drop-none xs i (sym first ∙ a) in
      let y = drop-none ys j (sym second ∙ b) in
      sym was ∙ (λ t. sides_of (x t) (y t))

  -- only the second side has more
  pub next_made : (y : Shown) → r ≡ None → s ≡ Some y → old ≡ sides r s ∷ sides_of (drop i xs) (drop (j + 1) ys)
  next_made y a b =
      let none = drop-none xs i (sym first ∙ a) in
      let item = drop-item ys j y (sym second ∙ b) in
      sym was ∙ (λ t. sides_of (none t) (item t)) ∙ sym (λ t. sides (a t) (b t) ∷ sides_of (none t) (drop (j + 1) ys))

  -- only the first side has more
  pub next_lost : (x : Shown) → r ≡ Some x → s ≡ None → old ≡ sides r s ∷ sides_of (drop (i + 1) xs) (drop j ys)
  next_lost x a b =
      let item = drop-item xs i x (sym first ∙ a) in
      let none = drop-none ys j (sym second ∙ b) in
      sym was ∙ (λ t. sides_of (item t) (none t)) ∙ sym (λ t. sides (a t) (b t) ∷ sides_of (drop (i + 1) xs) (none t))

  module _ (x y : Shown) (a : r ≡ Some x) (b : s ≡ Some y) where
    both : sides_of (drop i xs) (drop j ys) ≡ sides_of (x ∷ drop (i + 1) xs) (y ∷ drop (j + 1) ys)
    both =
        let one = drop-item xs i x (sym first ∙ a) in
        let other = drop-item ys j y (sym second ∙ b) in
        (λ t. sides_of (one t) (other t))

    rises : FramesRise 0 ys → FramesRise y.rise (y ∷ drop (j + 1) ys)
    rises h = (omega arith, (subst (FramesRise 0) (drop-item ys j y (sym second ∙ b)) (rise-drop j 0 ys h)).1)

    -- that of the second side comes first
    pub next_second : y.rise < x.rise → old ≡ sides None s ∷ sides_of (drop i xs) (drop (j + 1) ys)
    next_second lt =
        let one = drop-item xs i x (sym first ∙ a) in
        sym was ∙ both ∙ step_made x y (drop (i + 1) xs) (drop (j + 1) ys) lt ∙ sym (λ t. sides None (b t) ∷ sides_of (one t) (drop (j + 1) ys))

    -- that of the first side comes first
    pub next_first : FramesRise 0 ys → x.rise < y.rise → old ≡ sides r None ∷ sides_of (drop (i + 1) xs) (drop j ys)
    next_first h lt =
        let other = drop-item ys j y (sym second ∙ b) in
        sym was ∙ both ∙ step_lost x y (drop (i + 1) xs) (drop (j + 1) ys) lt (rises h)
        ∙ sym (λ t. sides (a t) None ∷ sides_of (drop (i + 1) xs) (other t))

    -- both have one place
    pub next_both : FramesRise 0 ys → x.rise ≡ y.rise → old ≡ sides r s ∷ sides_of (drop (i + 1) xs) (drop (j + 1) ys)
    next_both h same =
        sym was ∙ both ∙ step_both x y (drop (i + 1) xs) (drop (j + 1) ys) same (rises h)
        ∙ sym (λ t. sides (a t) (b t) ∷ sides_of (drop (i + 1) xs) (drop (j + 1) ys))
