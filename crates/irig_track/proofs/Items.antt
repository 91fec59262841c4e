-- Places of lists: what is there, what is before it, and what follows.
use Rattle.std.proofs.Common.{◌≡◌, ℕ, suc, zero, ◌+◌, ◌<◌, ◌≤◌, List, [], ◌∷◌, ◌++◌, length, take, drop, insert, remove, slice_get, Some, refl, sym, ap, ◌∙◌}
use Rattle.std.proofs.Common.{arith, add-one}
use Rattle.std.proofs.lemmas.{List.length-take-le, Option.get_or_from_slice_get, Option.slice_get_within}
use Rattle.std.proofs.Math.Seq.{drop-append-add, drop-append_seam, take-append-add, take-append_seam, take-suc}
pub use Rattle.irig_recording.proofs.Items.{drop-item}

module _ {X : Type 0} where
  slice_get-take : (n : ℕ) (xs : List X) (k : ℕ) → k < n → slice_get (take n xs) k ≡ slice_get xs k
  slice_get-take zero xs k h = absurd (omega arith)
  slice_get-take (suc n) [] k h = refl
  slice_get-take (suc n) (x ∷ xs) zero h = refl
  slice_get-take (suc n) (x ∷ xs) (suc k) h = slice_get-take n xs k (omega arith)

  -- what is at a place of the rest of a list
  pub slice_get-drop : (n : ℕ) (xs : List X) (k j : ℕ) → j ≡ n + k → slice_get (drop n xs) k ≡ slice_get xs j
  slice_get-drop zero xs k j e = let same : k ≡ j = omega arith in ap (slice_get xs) same
  slice_get-drop (suc n) [] k j e = refl
  slice_get-drop (suc n) (x ∷ xs) k zero e = absurd (omega arith)
  slice_get-drop (suc n) (x ∷ xs) k (suc j) e = slice_get-drop n xs k j (omega arith)

  -- what is at a place of a part of a list
  pub slice_get-part : (n m : ℕ) (xs : List X) (k j : ℕ) → k < n → j ≡ m + k
      → slice_get (take n (drop m xs)) k ≡ slice_get xs j
  slice_get-part n m xs k j h e = slice_get-take n (drop m xs) k h ∙ slice_get-drop m xs k j e

  -- up to a place: what is before it, and what is there
  pub take-item : (xs : List X) (k : ℕ) (x : X) → slice_get xs k ≡ Some x → take (k + 1) xs ≡ take k xs ++ x ∷ []
  take-item xs k x e = rw add-one
      (take-suc xs k x (slice_get_within xs k x e) ∙ ap (λ y. take k xs ++ y ∷ []) (get_or_from_slice_get xs k x x e))

  -- what is put at a place is left of the next one
  pub take-insert : (xs : List X) (p : ℕ) (x : X) → p ≤ length xs → take (p + 1) (insert xs p x) ≡ take p xs ++ x ∷ []
  take-insert xs p x le = ap (λ k. take (k + 1) (insert xs p x)) (sym (length-take-le p xs le)) ∙ take-append-add (take p xs) (x ∷ drop p xs) 1

  pub drop-insert : (xs : List X) (p : ℕ) (x : X) → p ≤ length xs → drop (p + 1) (insert xs p x) ≡ drop p xs
  drop-insert xs p x le = ap (λ k. drop (k + 1) (insert xs p x)) (sym (length-take-le p xs le)) ∙ drop-append-add (take p xs) (x ∷ drop p xs) 1

  -- what is removed is right of its place
  pub take-remove : (xs : List X) (p : ℕ) → p ≤ length xs → take p (remove xs p) ≡ take p xs
  take-remove xs p le = ap (λ k. take k (remove xs p)) (sym (length-take-le p xs le)) ∙ take-append_seam (take p xs) (drop (suc p) xs)

  pub drop-remove : (xs : List X) (p : ℕ) → p ≤ length xs → drop p (remove xs p) ≡ drop (p + 1) xs
  drop-remove xs p le = ap (λ k. drop k (remove xs p)) (sym (length-take-le p xs le)) ∙ drop-append_seam (take p xs) (drop (suc p) xs)
      ∙ ap (λ k. drop k xs) (sym (add-one p))

  pub drop-removed : (xs : List X) (p : ℕ) (x : X) → slice_get xs p ≡ Some x → drop p xs ≡ x ∷ drop p (remove xs p)
  drop-removed xs p x e =
      let inside = slice_get_within xs p x e in
      drop-item xs p x e ∙ ap (λ ys. x ∷ ys) (sym (drop-remove xs p (omega arith)))
