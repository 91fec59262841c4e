-- Lists of how many pulses deny each frame of the code.
use Rattle.std.proofs.Common.{◌≡◌, ◌≤◌, ◌++◌, ◌==◌, ℕ, suc, zero, Bool, true, false, List, [], ◌∷◌, get_or, Option, Some, None, arith, refl}
use Rattle.std.specs.Prelude.{if◌then◌else◌}
use Rattle.irig_law.specs.Quiet.{one_of}

pub one-low : (q : ℕ) (o : Option ℕ) → one_of q o ≤ 1
one-low q None = omega arith
one-low q (Some r) = by-test (r == q)
  where
    by-test : (b : Bool) → (if b then 1 else 0) ≤ 1
    by-test true = omega arith
    by-test false = omega arith

-- a zero at the end of a list changes no number of it
pub zero-more : (xs : List ℕ) (q : ℕ) → get_or (xs ++ 0 ∷ []) q 0 ≡ get_or xs q 0
zero-more [] zero = refl
zero-more [] (suc q) = refl
zero-more (x ∷ xs) zero = refl
zero-more (x ∷ xs) (suc q) = zero-more xs q
