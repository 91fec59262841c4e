-- How much dearer the next best explanation is where something happened. This project's own.
use Rattle.std.specs.Prelude.{ℕ, ◌≡◌, ◌+◌, ◌<◌, ◌++◌, Bool, true, false, List, [], ◌∷◌}
use Rattle.irig_explaining.specs.declared.{asked.Asked.Asked, claim.Claim.Claim}
use Rattle.irig_explaining.specs.declared.prices.Prices.{Prices}
use Rattle.irig_explaining.specs.{Explanation.IsExplanation, Explanation.cost, Labels.place}
use Rattle.irig_explaining.specs.{Priced.price, Recorded.rises_of, Sure.Gives, Sure.IsOther}
use Rattle.irig_happenings.specs.Happenings.{is_plain}

-- what a step says of the interval after its first rise
abbrev pub asked : Prices → Claim → Claim → Asked
asked p c d = record {
  interval = c.rise;
  place = place p c.rise c.element d.rise d.element d.kind;
}

-- all explanations that cost less than the margin more say the same, and one that costs just that
-- more says something else
pub record IsMargin (p : Prices) (least : ℕ) (c d : Claim) (margin : ℕ) : Type 0 where
  pub sure : (others : List Claim) → IsExplanation (rises_of p) others
      → cost (price p) (rises_of p) others < least + margin → Gives (place p) (asked p c d) others
  pub exact : IsOther (price p) (place p) (rises_of p) (asked p c d) (least + margin)

-- a step has a margin, if something happened there
abbrev pub AreOwnBy : Bool → Prices → ℕ → Claim → Claim → List ℕ → Type 0
AreOwnBy true p least c d own = own ≡ []
AreOwnBy false p least c d own = (margin : ℕ) × (own ≡ margin ∷ []) × IsMargin p least c d margin

abbrev pub AreOwn : Prices → ℕ → Claim → Claim → List ℕ → Type 0
AreOwn p least c d own = AreOwnBy (is_plain p c d) p least c d own

-- the margins of all steps from a claim on, in order
abbrev pub MarginsAfter : Prices → ℕ → Claim → List Claim → List ℕ → Type 0
MarginsAfter p least c [] margins = margins ≡ []
MarginsAfter p least c (d ∷ ds) margins =
    (own : List ℕ) × (later : List ℕ) × (margins ≡ own ++ later)
    × AreOwn p least c d own × MarginsAfter p least d ds later

-- those of an explanation
abbrev pub AreMargins : Prices → ℕ → List Claim → List ℕ → Type 0
AreMargins p least [] margins = margins ≡ []
AreMargins p least (c ∷ cs) margins = MarginsAfter p least c cs margins
