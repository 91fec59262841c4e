-- The table as it grows.
use Rattle.std.proofs.Common.{◌≡◌, ◌-◌, ◌<◌, ◌++◌, ◌⊎◌, ℕ, zero, suc, List, [], ◌∷◌, length, get_or, slice_get, Some, refl, inl, inr, subst, sym}
use Rattle.std.proofs.lemmas.Option.{slice_get_read}
use Rattle.std.specs.Global.{Vec}
use Rattle.irig_dating.specs.Choices.{Prices}
use Rattle.irig_dating.specs.Rows.{AreRows, IsRow}

-- what is there after one more is either one that was, or that one
pub pushed : (rows : List (Vec ℕ)) (row that : Vec ℕ) (i : ℕ) → slice_get (rows ++ row ∷ []) i ≡ Some that
    → (slice_get rows i ≡ Some that) ⊎ ((i ≡ length rows) × (row ≡ that))
pushed [] row that zero e = inr (refl, cc)
pushed [] row that (suc i) e = absurd (cc)
pushed (r ∷ rs) row that zero e = inl e
pushed (r ∷ rs) row that (suc i) e = elim (pushed rs row that i e) [ inl h ↦ inl h | inr h ↦ (let same = h.0 in inr (cc, h.1)) ]

-- one more row
pub rows_more : (p : Prices) (bits : ℕ) (rows : List (Vec ℕ)) (row : Vec ℕ) → AreRows p bits rows
    → IsRow p bits (bits - 1 - length rows) row.items → AreRows p bits (rows ++ row ∷ [])
rows_more p bits rows row are is = λ i that e.
    elim (pushed rows row that i e) [
      | inl was ↦ are i that was
      | inr new ↦ subst (λ (r : Vec ℕ). IsRow p bits (bits - 1 - i) r.items) new.1
          (subst (λ n. IsRow p bits (bits - 1 - n) row.items) (sym new.0) is)
    ]

-- the row of a bit
pub row_at : (p : Prices) (bits : ℕ) (rows : List (Vec ℕ)) (t i : ℕ) (row : Vec ℕ) → AreRows p bits rows → i < length rows
    → bits - 1 - i ≡ t → row ≡ get_or rows i row → IsRow p bits t row.items
row_at p bits rows t i row are lt same is =
    subst (λ n. IsRow p bits n row.items) same (are i row (slice_get_read rows (length rows) i row refl lt is))
