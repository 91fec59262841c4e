-- The cheapest end of an explanation, and the claims read back from it. This project's own.
use Rattle.std.specs.Prelude.{ℕ, ◌≡◌, ◌+◌, ◌-◌, ◌*◌, ◌≤◌, Contains, List, Option, Some, None}
use Rattle.std.specs.Prelude.{MatchOption, slice_get, slice_index_or}
use Rattle.irig_explaining.specs.declared.{claim.Claim.Claim, rises.Rises.Rises, ends.End.End}
use Rattle.irig_explaining.specs.declared.nodes.Node.{Node}
use Rattle.irig_explaining.specs.Explanation.{Price, AreClaims, IsExplanation, cost, cost_after}
use Rattle.irig_explaining.specs.Nodes.{AreNodes, claim_of}

-- a table that some prices have
abbrev pub IsTable : Rises → List Node → Type 0
IsTable rises nodes = (price : Price) × AreNodes price rises rises.count nodes

-- what an explanation costs whose last claim is a node
abbrev pub ending : Rises → Node → ℕ
ending rises n = n.cost + rises.skip * (rises.count - n.rise - 1)

-- a node is the last claim
pub record EndsAt (rises : Rises) (nodes : List Node) (spent v : ℕ) : Type 0 where
  pub last : Node
  pub at : slice_get nodes v ≡ Some last
  pub cost : spent ≡ ending rises last

-- an end costs at most what no claim costs, or any last one, and is one of these
pub record IsEnd (rises : Rises) (nodes : List Node) (e : End) : Type 0 where
  pub none : e.cost ≤ rises.skip * rises.count
  pub least : (n : Node) → Contains nodes n → e.cost ≤ ending rises n
  pub backed : MatchOption e.last (e.cost ≡ rises.skip * rises.count)
      (λ v. EndsAt rises nodes e.cost v)

-- claims can follow a node, and all of it costs that
pub record Follow (price : Price) (rises : Rises) (nodes : List Node) (cs : List Claim)
    (total v : ℕ) : Type 0 where
  pub node : Node
  pub at : slice_get nodes v ≡ Some node
  pub possible : AreClaims rises (claim_of node) cs
  pub exact : node.cost + cost_after price rises (claim_of node) cs ≡ total

-- claims can follow a node, or are an explanation; all of it costs that
abbrev pub IsEnding : Price → Rises → List Node → List Claim → ℕ → Option ℕ → Type 0
IsEnding price rises nodes cs total None = IsExplanation rises cs × (cost price rises cs ≡ total)
IsEnding price rises nodes cs total (Some v) = Follow price rises nodes cs total v

-- the rises that are left to read, from a node on
abbrev pub rises_left : List Node → Option ℕ → ℕ
rises_left nodes None = 0
rises_left nodes (Some v) =
    (slice_index_or nodes v (record { cost = 0; rise = 0; element = 0 })).rise + 1
