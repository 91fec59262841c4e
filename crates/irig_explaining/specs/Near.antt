-- The nodes from which a step can lead to a rise. This project's own.
use Rattle.std.specs.Prelude.{ℕ, ◌≡◌, ◌+◌, ◌<◌, ◌≤◌, List, Some, length, slice_get}
use Rattle.irig_explaining.specs.declared.{near.Near.Near, nodes.Node.Node}

-- this many nodes at the beginning of a list are of rises before one, and the others are not
pub record IsSplit (nodes : List Node) (q count : ℕ) : Type 0 where
  pub below : count ≤ length nodes
  pub before : (u : ℕ) (m : Node) → slice_get nodes u ≡ Some m → u < count → m.rise < q
  pub after : (u : ℕ) (m : Node) → slice_get nodes u ≡ Some m → count ≤ u → q ≤ m.rise

-- the neighbours are those nodes, and all of them, that are of rises in a window before one
pub record IsNear (window : ℕ) (nodes : List Node) (q : ℕ) (n : Near) : Type 0 where
  pub below : n.end ≤ length nodes
  pub later : (u : ℕ) (m : Node) → slice_get nodes u ≡ Some m → u < n.end → m.rise < q
  pub near : (u : ℕ) (m : Node) → slice_get nodes u ≡ Some m → n.start ≤ u → q ≤ m.rise + window
  pub all : (u : ℕ) (m : Node) → slice_get nodes u ≡ Some m → m.rise < q → q ≤ m.rise + window
      → (n.start ≤ u) × (u < n.end)
