-- Lines that are numbered in order. This project's own.
use Rattle.std.specs.Prelude.{ℕ, suc, List, [], ◌∷◌, ◌++◌}

-- a line for each item, numbered from here on
abbrev pub numbered : {T : Type 0} → (ℕ → T → List ℕ) → ℕ → List T → List ℕ
numbered line n [] = []
numbered line n (x ∷ xs) = line n x ++ numbered line (suc n) xs
