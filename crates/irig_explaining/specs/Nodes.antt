-- The table of nodes: claims, each with the least cost of all ways to it. This project's own.
use Rattle.std.specs.Prelude.{ℕ, ◌≡◌, ◌+◌, ◌*◌, ◌<◌, ◌≤◌, ◌⊎◌, All, Contains, List, MatchOption, Some, slice_get}
use Rattle.std.specs.List.Sorted.{IsNonDecreasingBy}
use Rattle.irig_explaining.specs.declared.{claim.Claim.Claim, claim.Kind.Kind, rises.Rises.Rises}
use Rattle.irig_explaining.specs.declared.claim.Kind.TheVariants.{Next, Jump}
use Rattle.irig_explaining.specs.declared.{nodes.Node.Node, ways.Way.Way}
use Rattle.irig_explaining.specs.Explanation.{Price}

-- the claim of a node, of some kind
abbrev pub claim_of : Node → Claim
claim_of n = record { rise = n.rise; element = n.element; kind = Next }

-- a step can lead from a node to a rise
pub record Within (rises : Rises) (m : Node) (q : ℕ) : Type 0 where
  pub later : m.rise < q
  pub near : q ≤ m.rise + rises.window

-- what a node costs, and a step from it to a rise and its element
abbrev pub going : Price → Node → ℕ → ℕ → Kind → ℕ
going price m q f k = m.cost + price m.rise m.element q f k

-- no way to a claim costs less: neither as the first one, nor by a step from a node
pub record IsLow (price : Price) (rises : Rises) (nodes : List Node) (q f low : ℕ) : Type 0 where
  pub first : low ≤ rises.skip * q
  pub steps : (m : Node) (k : Kind) → Contains nodes m → Within rises m q
      → low ≤ going price m q f k

-- a way to a claim is a step from that node
pub record ComesFrom (price : Price) (rises : Rises) (nodes : List Node) (q f : ℕ) (w : Way) (u : ℕ)
    : Type 0 where
  pub before : Node
  pub at : slice_get nodes u ≡ Some before
  pub within : Within rises before q
  pub exact : w.cost ≡ going price before q f w.kind

-- a way to a claim is one, and none costs less
pub record IsLeast (price : Price) (rises : Rises) (nodes : List Node) (q f : ℕ) (w : Way)
    : Type 0 where
  pub low : IsLow price rises nodes q f w.cost
  pub backed : MatchOption w.from (w.cost ≡ rises.skip * q)
      (λ u. ComesFrom price rises nodes q f w u)

-- the least cost of all ways to a claim
pub record IsCost (price : Price) (rises : Rises) (nodes : List Node) (q f cost : ℕ) : Type 0 where
  pub way : Way
  pub is : IsLeast price rises nodes q f way
  pub exact : way.cost ≡ cost

-- a node is a claim of one of the first rises, with its least cost
pub record IsNode (price : Price) (rises : Rises) (done : ℕ) (nodes : List Node) (n : Node)
    : Type 0 where
  pub rise : n.rise < done
  pub element : n.element < rises.states
  pub costs : IsCost price rises nodes n.rise n.element n.cost

-- a node stands for a claim: it is of its rise, costs no more, and is the claim itself, or no step
-- from the claim is cheaper than a jump from the node
pub record IsKnown (price : Price) (rises : Rises) (nodes : List Node) (r e : ℕ) : Type 0 where
  pub node : Node
  pub there : Contains nodes node
  pub beside : node.rise ≡ r
  pub least : ℕ
  pub costs : IsCost price rises nodes r e least
  pub cheap : node.cost ≤ least
  pub steps : (node.element ≡ e)
      ⊎ ((q f : ℕ) (k : Kind) → going price node q f Jump ≤ least + price r e q f k)

-- the nodes of the first rises, in their order: each claim of these has one that stands for it
pub record AreNodes (price : Price) (rises : Rises) (done : ℕ) (nodes : List Node) : Type 0 where
  pub known : (r e : ℕ) → r < done → e < rises.states → IsKnown price rises nodes r e
  pub each : All (IsNode price rises done nodes) nodes
  pub sorted : IsNonDecreasingBy (λ n. n.rise) nodes
