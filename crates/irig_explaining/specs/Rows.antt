-- The least costs of all claims of one rise, and those that have nodes. This project's own.
use Rattle.std.specs.Prelude.{ℕ, ◌≡◌, ◌+◌, ◌<◌, ◌≤◌, ◌⊎◌, All, Contains, List, length, slice_index_or}
use Rattle.irig_explaining.specs.declared.{claim.Kind.Kind, rises.Rises.Rises, nodes.Node.Node}
use Rattle.irig_explaining.specs.declared.claim.Kind.TheVariants.{Jump}
use Rattle.irig_explaining.specs.Explanation.{Price}
use Rattle.irig_explaining.specs.Nodes.{IsCost, going}

-- the least costs of all claims of a rise
pub record IsRow (price : Price) (rises : Rises) (nodes : List Node) (r : ℕ) (row : List ℕ)
    : Type 0 where
  pub all : length row ≡ rises.states
  pub each : (e : ℕ) → e < rises.states → IsCost price rises nodes r e (slice_index_or row e 0)

-- the node of an element
abbrev pub node_of : ℕ → List ℕ → ℕ → Node
node_of r row e = record { cost = slice_index_or row e 0; rise = r; element = e }

-- a node is one of those
abbrev pub IsIn : ℕ → List ℕ → Node → Type 0
IsIn r row n = (n.rise ≡ r) × (n.element < length row) × (n.cost ≡ slice_index_or row n.element 0)

-- an element costs the least, if there is one
pub record IsLeastOf (row : List ℕ) (best : ℕ) : Type 0 where
  pub there : 0 < length row → best < length row
  pub low : All (λ c. slice_index_or row best 0 ≤ c) row

-- a jump from one element of a rise costs at most that more than any step from another one
abbrev pub IsMost : Price → ℕ → ℕ → ℕ → ℕ → Type 0
IsMost price r this e most =
    (q f : ℕ) (k : Kind) → price r this q f Jump ≤ price r e q f k + most

-- no step from a node is cheaper than a jump from another one
pub record IsBeaten (price : Price) (best n : Node) : Type 0 where
  pub cheap : best.cost ≤ n.cost
  pub steps : (q f : ℕ) (k : Kind) → going price best q f Jump ≤ going price n q f k

-- some nodes of a row: its best one, and all that this one does not beat
pub record AreKept (price : Price) (r : ℕ) (row : List ℕ) (best : ℕ) (kept : List Node)
    : Type 0 where
  pub those : All (IsIn r row) kept
  pub best_too : best < length row → Contains kept (node_of r row best)
  pub others : (e : ℕ) → e < length row
      → Contains kept (node_of r row e) ⊎ IsBeaten price (node_of r row best) (node_of r row e)
