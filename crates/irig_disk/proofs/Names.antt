-- Two names are one or they are not.
use Rattle.std.proofs.Common.{◌≡◌, ◌≢◌, ◌⊎◌, inl, inr, refl, Bool, true, false, ℕ, List}
use Rattle.std.specs.{Bool.Decides, Str.bytes_eq}
use Rattle.std.proofs.lemmas.Slice.Eq.{bytes_eq-Decides}

decided : (P : Type 0) (r : Bool) → Decides r P → P ⊎ (P → ⊥)
decided P true d = inl (d.0 refl)
decided P false d = inr (λ p. let clash = d.1 p in cc)

pub same_or_not : (a b : List ℕ) → (a ≡ b) ⊎ (a ≢ b)
same_or_not a b = decided (a ≡ b) (bytes_eq a b) (bytes_eq-Decides a b)
