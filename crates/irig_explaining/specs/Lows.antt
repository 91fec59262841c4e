-- The least costs of all claims of a rise, as steps from open nodes lower them. This project's own.
use Rattle.std.specs.Prelude.{ℕ, ◌≡◌, ◌<◌, ◌≤◌, ◌⊎◌, Contains, List, Some, length, slice_get, slice_index_or, true}
use Rattle.irig_explaining.specs.declared.{claim.Kind.Kind, nodes.Node.Node, opened.Open.Open}
use Rattle.irig_explaining.specs.declared.claim.Kind.TheVariants.{Next, Step}
use Rattle.irig_explaining.specs.{Explanation.Price, Nodes.going, Reached.reaches}

-- no step from a node to an element costs less, but a jump
pub record IsUnder (price : Price) (m : Node) (q e cost : ℕ) : Type 0 where
  pub next : cost ≤ going price m q e Next
  pub step : cost ≤ going price m q e Step

-- each cost is as it was, or lower: that of a step from a node
pub record IsLower (price : Price) (m : Node) (q : ℕ) (old new : List ℕ) : Type 0 where
  pub all : length new ≡ length old
  pub kept : (e : ℕ) → slice_index_or new e 0 ≤ slice_index_or old e 0
  pub origin : (e : ℕ) → (slice_index_or new e 0 ≡ slice_index_or old e 0)
      ⊎ ((k : Kind) × (slice_index_or new e 0 ≡ going price m q e k))

-- a cost is that of a step from an open node
pub record IsFrom (price : Price) (nodes : List Node) (opens : List Open) (q e cost : ℕ)
    : Type 0 where
  pub one : Open
  pub there : Contains opens one
  pub node : Node
  pub at : slice_get nodes one.from ≡ Some node
  pub kind : Kind
  pub exact : cost ≡ going price node q e kind

-- the same from all of them, and no step to an element in reach costs less
pub record AreStepped (price : Price) (nodes : List Node) (opens : List Open) (q : ℕ)
    (old new : List ℕ) : Type 0 where
  pub all : length new ≡ length old
  pub kept : (e : ℕ) → slice_index_or new e 0 ≤ slice_index_or old e 0
  pub under : (e : ℕ) (o : Open) (m : Node) → e < length old → Contains opens o
      → slice_get nodes o.from ≡ Some m → reaches o.reach e ≡ true
      → IsUnder price m q e (slice_index_or new e 0)
  pub origin : (e : ℕ) → (slice_index_or new e 0 ≡ slice_index_or old e 0)
      ⊎ IsFrom price nodes opens q e (slice_index_or new e 0)
