-- Edges, one after the other.
use Rattle.std.proofs.Common.{◌≡◌, ◌<◌, ◌≤◌, ◌%◌, ◌*◌, ℕ, zero, suc, Bool, true, false, inl, inr, not, List, [], ◌∷◌, length, nat_eq, refl, ap, sym, ◌∙◌, arith}
use Rattle.std.proofs.Common.{lit<}
use Rattle.std.proofs.lemmas.{Bool.eqb-true, Bool.cases_lt, Nat.mod_below}
use Rattle.std.proofs.Math.Nat.{suc-mod}
use Rattle.irig_recording.specs.Recording.{is_even_long}

turned : (r : ℕ) → r < 2 → nat_eq (suc r % 2) 0 ≡ not (nat_eq r 0)
turned zero h = refl
turned (suc zero) h = refl
turned (suc (suc r)) h = absurd (omega arith)

-- the parity of a list is that of its length
pub even-length : (xs : List ℕ) → is_even_long xs ≡ nat_eq (length xs % 2) 0
even-length [] = refl
even-length (x ∷ xs) = ap not (even-length xs) ∙ (sym (turned (length xs % 2) (mod_below (length xs) 2 (lit< tt)))
    ∙ ap (λ n. nat_eq n 0) (sym (suc-mod (length xs) 2)))

-- an odd length makes no recording
pub odd_length : (xs : List ℕ) → is_even_long xs ≡ true → (length xs % 2 ≡ 0 → ⊥) → ⊥
odd_length xs even odd = odd (eqb-true (length xs % 2) 0 (sym (even-length xs) ∙ even))

pub even_length : (xs : List ℕ) → length xs % 2 ≡ 0 → is_even_long xs ≡ true
even_length xs h = even-length xs ∙ rw h refl

-- if not one too many, they are within the limit
pub not_full : (most n : ℕ) (full : Bool) → (2 * most < n → full ≡ true) → full ≡ false → n ≤ 2 * most
not_full most n full many apart = elim (cases_lt (2 * most) n) [ inl more ↦ absurd (let bad : true ≡ false = sym (many more) ∙ apart in cc) | inr few ↦ few ]
