-- What explanations say of an interval between two rises. This project's own.
use Rattle.std.specs.Prelude.{ℕ, ◌≡◌, ◌<◌, ◌≤◌, ◌⊎◌, List, [], ◌∷◌}
use Rattle.irig_explaining.specs.declared.{asked.Asked.Asked, claim.Claim.Claim, rises.Rises.Rises}
use Rattle.irig_explaining.specs.Explanation.{Price, IsExplanation, cost}

-- a step goes over the interval after a rise
abbrev pub Spans : ℕ → Claim → Claim → Type 0
Spans t c d = (c.rise ≤ t) × (t < d.rise)

-- after a claim a step goes over the interval, and gives it the place
abbrev pub GivesAfter : Price → Asked → Claim → List Claim → Type 0
GivesAfter place a c [] = ⊥
GivesAfter place a c (d ∷ ds) =
    (Spans a.interval c d × (place c.rise c.element d.rise d.element d.kind ≡ a.place))
    ⊎ GivesAfter place a d ds

-- an explanation has a step over the interval, and gives it the place
abbrev pub Gives : Price → Asked → List Claim → Type 0
Gives place a [] = ⊥
Gives place a (c ∷ cs) = GivesAfter place a c cs

-- some explanation costs that, and does not give the interval the place
pub record IsOther (price place : Price) (rises : Rises) (a : Asked) (total : ℕ) : Type 0 where
  pub claims : List Claim
  pub possible : IsExplanation rises claims
  pub exact : cost price rises claims ≡ total
  pub elsewhere : Gives place a claims → ⊥
