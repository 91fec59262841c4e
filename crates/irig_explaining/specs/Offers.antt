-- The ways to a claim from one node, and from the last one near it. This project's own.
use Rattle.std.specs.Prelude.{ℕ, ◌≡◌, ◌*◌, ◌<◌, ◌≤◌, ◌⊎◌, List, Some, slice_get}
use Rattle.irig_explaining.specs.declared.{claim.Claim.Claim, claim.Kind.Kind, near.Near.Near}
use Rattle.irig_explaining.specs.declared.{rises.Rises.Rises, claim.Kind.TheVariants.Jump}
use Rattle.irig_explaining.specs.declared.{nodes.Node.Node, ways.Way.Way}
use Rattle.irig_explaining.specs.Explanation.{Price}
use Rattle.irig_explaining.specs.Nodes.{going}

-- a way to a claim, or one from a node that costs no more than the top, whichever is cheapest
pub record Offered (price : Price) (m : Node) (u : ℕ) (to : Claim) (top : ℕ) (best w : Way)
    : Type 0 where
  pub kept : w.cost ≤ best.cost
  pub least : (k : Kind) → going price m to.rise to.element k ≤ top
      → w.cost ≤ going price m to.rise to.element k
  pub origin : (w ≡ best)
      ⊎ ((w.from ≡ Some u) × (w.cost ≡ going price m to.rise to.element w.kind))

-- a node near a rise, from which a step to an element costs no more than the top
pub record Leads (price : Price) (nodes : List Node) (near : Near) (q f top : ℕ) : Type 0 where
  pub number : ℕ
  pub node : Node
  pub start : near.start ≤ number
  pub end : number < near.end
  pub at : slice_get nodes number ≡ Some node
  pub kind : Kind
  pub step : going price node q f kind ≤ top

-- the cheapest way to a claim costs no more
abbrev pub IsLed : Price → Rises → List Node → Near → ℕ → ℕ → ℕ → Type 0
IsLed price rises nodes near q f top = (rises.skip * q ≤ top) ⊎ Leads price nodes near q f top

-- a node near a rise, from which a jump to an element costs no more than the top
pub record Jumps (price : Price) (nodes : List Node) (near : Near) (q f top : ℕ) : Type 0 where
  pub number : ℕ
  pub node : Node
  pub start : near.start ≤ number
  pub end : number < near.end
  pub at : slice_get nodes number ≡ Some node
  pub jump : going price node q f Jump ≤ top

-- the cheapest way to a claim costs no more: as the first one, or by a jump
abbrev pub IsTop : Price → Rises → List Node → Near → ℕ → ℕ → ℕ → Type 0
IsTop price rises nodes near q f top = (rises.skip * q ≤ top) ⊎ Jumps price nodes near q f top
