-- Explanations of rises, and what they cost. This project's own.
use Rattle.std.specs.Prelude.{ℕ, ◌+◌, ◌-◌, ◌*◌, ◌<◌, ◌≤◌, List, [], ◌∷◌}
use Rattle.irig_explaining.specs.declared.{claim.Claim.Claim, claim.Kind.Kind, rises.Rises.Rises}

-- what a step costs: from a rise and its element, to a rise and its element, and of what kind
abbrev pub Price : Type 0
Price = ℕ → ℕ → ℕ → ℕ → Kind → ℕ

-- a claim is about a rise that there is, and one of the elements
abbrev pub IsClaim : Rises → Claim → Type 0
IsClaim rises c = (c.rise < rises.count) × (c.element < rises.states)

-- a step leads from a claim to one of a later rise, in the window
abbrev pub IsStep : Rises → Claim → Claim → Type 0
IsStep rises c d = (c.rise < d.rise) × (d.rise ≤ c.rise + rises.window)

-- a claim and those after it, with a step to each
abbrev pub AreClaims : Rises → Claim → List Claim → Type 0
AreClaims rises c [] = IsClaim rises c
AreClaims rises c (d ∷ ds) = IsClaim rises c × IsStep rises c d × AreClaims rises d ds

-- any number of claims, also none
abbrev pub IsExplanation : Rises → List Claim → Type 0
IsExplanation rises [] = Unit {0}
IsExplanation rises (c ∷ cs) = AreClaims rises c cs

-- what comes after a claim costs: each step, and each rise after the last claim
abbrev pub cost_after : Price → Rises → Claim → List Claim → ℕ
cost_after price rises c [] = rises.skip * (rises.count - c.rise - 1)
cost_after price rises c (d ∷ ds) =
    price c.rise c.element d.rise d.element d.kind + cost_after price rises d ds

-- what an explanation costs: each rise before the first claim, and what comes after that claim
abbrev pub cost : Price → Rises → List Claim → ℕ
cost price rises [] = rises.skip * rises.count
cost price rises (c ∷ cs) = rises.skip * c.rise + cost_after price rises c cs
