-- Lists that are made item by item: of the chains of frames, of the frames that read well, and of those that are kept.
use Rattle.std.proofs.Common.{◌≡◌, inl, inr, ◌≤◌, ◌+◌, ◌++◌, ◌&&◌, ℕ, nat_lt, not, zero, suc, Bool, true, false, List, [], ◌∷◌, length, drop, slice_get, Some, arith, refl, sym, ap, ◌∙◌, append_assoc}
use Rattle.std.proofs.lemmas.{Bool.cases_Bool, Bool.ltb-true, Option.none-some, Option.same_Some}
use Rattle.irig_codes.specs.Format.{FormatView}
use Rattle.irig_law.specs.{Believed.chain_after, Believed.is_true_at, Believed.kept, Believed.kept_from, Believed.with_frame}
use Rattle.irig_law.specs.{OfOne.is_doubted, OfOne.is_right, OfOne.size_of}
use Rattle.irig_law.specs.declared.{chain.Chain.Chain, fine.Fine.Fine, frame.Frame.Frame}

pub drop-at : (A : Type 0) (xs : List A) (k : ℕ) (x : A) → slice_get xs k ≡ Some x → drop k xs ≡ x ∷ drop (k + 1) xs
drop-at A xs k x at = go xs k at ∙ (let e : suc k ≡ k + 1 = omega arith in ap (λ (n : ℕ). x ∷ drop n xs) e)
  where
    go : (ys : List A) (k : ℕ) → slice_get ys k ≡ Some x → drop k ys ≡ x ∷ drop (suc k) ys
    go [] k h = absurd (none-some x h)
    go (y ∷ ys) zero h = ap (λ (z : A). z ∷ ys) (same_Some y x h)
    go (y ∷ ys) (suc k) h = go ys k h

pub first-drop : (A : Type 0) (xs : List A) (x : A) → slice_get xs 0 ≡ Some x → xs ≡ x ∷ drop 1 xs
first-drop A [] x h = absurd (none-some x h)
first-drop A (y ∷ xs) x h = ap (λ (z : A). z ∷ xs) (same_Some y x h)

pub drop-end : (A : Type 0) (xs : List A) (k : ℕ) → length xs ≤ k → drop k xs ≡ []
drop-end A [] zero le = refl
drop-end A [] (suc k) le = refl
drop-end A (x ∷ xs) zero le = absurd (omega (arith, le))
drop-end A (x ∷ xs) (suc k) le = drop-end A xs k (omega (arith, le))

pub with-rest : (right : Bool) (x : Fine) (rest : List Frame) → with_frame right x [] ++ rest ≡ with_frame right x rest
with-rest true x rest = refl
with-rest false x rest = refl

-- a list with one more at its end
pub with-last : (xs : List Frame) (x : Frame) (rest ys : List Frame) → ys ≡ xs ++ x ∷ [] → ys ++ rest ≡ xs ++ x ∷ rest
with-last xs x rest ys is = ap (λ (l : List Frame). l ++ rest) is ∙ append_assoc xs (x ∷ []) rest

-- what is kept by two tests that are the same everywhere
module _ (f : FormatView) (century : ℕ) (one other : ℕ → Bool) (same : (i : ℕ) → one i ≡ other i) where
  kept-from-same : (n : ℕ) (before : Fine) (xs : List Fine) → kept_from f century one n before xs ≡ kept_from f century other n before xs
  kept-from-same n before [] = refl
  kept-from-same n before (x ∷ xs) =
      let m = chain_after f century n before x in
      let rest = kept-from-same m x xs in
      λ i. with_frame (same m i) x (rest i)

  pub kept-same : (xs : List Fine) → kept f century one xs ≡ kept f century other xs
  kept-same [] = refl
  kept-same (x ∷ xs) = let rest = kept-from-same 0 x xs in λ i. with_frame (same 0 i) x (rest i)

-- a list of what is right of each chain says so of each place
pub rights-are : (list : List Bool) (n : ℕ) (test : ℕ → Bool) → length list ≡ n → ((i : ℕ) (y : Bool) → slice_get list i ≡ Some y → y ≡ test i)
    → ((i : ℕ) → n ≤ i → test i ≡ false) → (i : ℕ) → is_true_at list i ≡ test i
rights-are list n test many each past i = go list i (each i) (λ le. past i (omega (arith, le, many)))
  where
    go : (l : List Bool) (k : ℕ) → ((y : Bool) → slice_get l k ≡ Some y → y ≡ test i) → (length l ≤ k → test i ≡ false) → is_true_at l k ≡ test i
    go [] k here out = sym (out (omega arith))
    go (x ∷ l) zero here out = here x refl
    go (x ∷ l) (suc k) here out = go l k here (λ le. out (omega (arith, le)))

-- no chain is right that is not there
pub right-past : (f : FormatView) (century : ℕ) (cs : List Chain) (i : ℕ) → length cs ≤ i → is_right f century cs i ≡ false
right-past f century cs i le =
    ap (λ b. b && (nat_lt 1 (size_of f century cs i) && not (is_doubted f century cs i))) (not-lt i (length cs) le)
  where
    not-lt : (i n : ℕ) → n ≤ i → nat_lt i n ≡ false
    not-lt i n le = elim (cases_Bool (nat_lt i n)) [
      | inl on ↦ absurd (let less = ltb-true i n on in omega (arith, less, le))
      | inr off ↦ off
    ]
