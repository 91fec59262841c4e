-- The bases that the frames of a block can have: this project's own.
use Rattle.std.specs.Prelude.{ℕ, ◌+◌, ◌^◌, ◌<◌, ◌≤◌, List, [], ◌∷◌, length}
use Rattle.irig_codes.specs.declared.format.Kind.{Kind}
use Rattle.irig_candidates.specs.Times.{year_of}

-- each number is greater than the one before it, the first one at least `least`, and all are below
-- `most`
abbrev pub AreRising : ℕ → ℕ → List ℕ → Type 0
AreRising least most [] = Unit {0}
AreRising least most (x ∷ xs) = (least ≤ x) × ((x < most) × AreRising (x + 1) most xs)

-- so few, each once, in their order
pub record AreFew (below most : ℕ) (bases : List ℕ) : Type 0 where
  pub rising : AreRising 0 below bases
  pub few : length bases ≤ most

-- times of a year
abbrev pub AreBases : Kind → List ℕ → Type 0
AreBases k bases = AreFew (year_of k) 16 bases

-- times of frames, also of a second 60
abbrev pub IsSet : List ℕ → Type 0
IsSet bases = AreFew (2 ^ 34) 80 bases
