-- What is known of a shelf, and how writes change it. This project's own.
use Rattle.std.specs.Prelude.{◌≡◌, ◌+◌, ◌-◌, ◌^◌, ◌++◌, ℕ, List, Option, Some, None, max, min}

-- a known list grows by these at its end
abbrev pub GrowsBy : {T : Type 0} → Option (List T) → Option (List T) → List T → Type 0
GrowsBy None new more = Unit {0}
GrowsBy (Some xs) None more = ⊥
GrowsBy (Some xs) (Some ys) more = ys ≡ xs ++ more

-- the count of failures rose by exactly this many, up to 2^64 - 1
abbrev pub RisesBy : ℕ → ℕ → ℕ → Type 0
RisesBy old new count = new ≡ max old (min (old + count) (2 ^ 64 - 1))

-- the texts written, if the shelf shows them, how often a write failed, and what sets the shelf
-- apart from others
pub record Shelved : Type 0 where
  pub texts : Option (List (List ℕ))
  pub failures : ℕ
  pub label : List ℕ

-- the shelf with these
abbrev pub shelved : Option (List (List ℕ)) → ℕ → List ℕ → Shelved
shelved texts failures label = record { texts = texts; failures = failures; label = label }

-- exactly these texts were written, exactly this many writes failed, and the shelf is still that
-- one
pub record Puts (old new : Shelved) (texts : List (List ℕ)) (count : ℕ) : Type 0 where
  pub put : GrowsBy old.texts new.texts texts
  pub failed : RisesBy old.failures new.failures count
  pub label : new.label ≡ old.label
