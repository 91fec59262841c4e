-- Choices of a candidate for each bit, and what they cost. This project's own.
use Rattle.std.specs.Prelude.{ℕ, ◌≡◌, ◌+◌, ◌≤◌, List, [], ◌∷◌, length, Option, Some, None}

-- the last candidate of each bit (from 0), what a candidate of a bit costs, and what it costs
-- that a bit has one after one of the bit before
pub record Prices : Type 0 where
  pub last : ℕ → ℕ
  pub pay : ℕ → ℕ → ℕ
  pub join : ℕ → ℕ → ℕ → ℕ

-- candidates of bits next to each other, from one on
abbrev pub AreChosen : Prices → ℕ → List ℕ → Type 0
AreChosen p t [] = Unit {0}
AreChosen p t (c ∷ cs) = (c ≤ p.last t) × AreChosen p (t + 1) cs

-- one candidate of each bit
abbrev pub IsChoice : Prices → ℕ → List ℕ → Type 0
IsChoice p bits cs = (length cs ≡ bits) × AreChosen p 0 cs

-- what a candidate of a bit costs, after that of the bit before, if there is one
abbrev pub step : Prices → ℕ → Option ℕ → ℕ → ℕ
step p t None d = p.pay t d
step p t (Some c) d = p.join t c d + p.pay t d

-- what candidates from a bit on cost, after that of the bit before
abbrev pub cost_from : Prices → ℕ → Option ℕ → List ℕ → ℕ
cost_from p t before [] = 0
cost_from p t before (d ∷ ds) = step p t before d + cost_from p (t + 1) (Some d) ds

-- what a choice costs
abbrev pub cost : Prices → List ℕ → ℕ
cost p cs = cost_from p 0 None cs
