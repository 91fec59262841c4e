-- The nodes from which a step to a rise can be the cheapest way. This project's own.
use Rattle.std.specs.Prelude.{ℕ, ◌≡◌, ◌*◌, ◌<◌, ◌≤◌, ◌⊎◌, All, Contains, List, MatchOption, None, Some, false, slice_get}
use Rattle.irig_explaining.specs.declared.{claim.Kind.Kind, nodes.Node.Node}
use Rattle.irig_explaining.specs.declared.claim.Kind.TheVariants.{Jump}
use Rattle.irig_explaining.specs.declared.{opened.Open.Open, rises.Rises.Rises, ways.Way.Way}
use Rattle.irig_explaining.specs.Explanation.{Price}
use Rattle.irig_explaining.specs.{Nodes.ComesFrom, Nodes.Within, Nodes.going, Reached.IsReach, Reached.reaches}

-- a node from which a step can lead to a rise, and what it reaches without a jump
pub record IsOpen (price : Price) (rises : Rises) (nodes : List Node) (q : ℕ) (o : Open)
    : Type 0 where
  pub node : Node
  pub at : slice_get nodes o.from ≡ Some node
  pub within : Within rises node q
  pub fits : IsReach o.reach
  pub reach : (f : ℕ) (k : Kind) → reaches o.reach f ≡ false
      → going price node q f Jump ≤ going price node q f k
  pub least : (f : ℕ) (k : Kind) → o.least ≤ going price node q f k

-- a node of some number is one of those
pub record HasOpen (opens : List Open) (u : ℕ) : Type 0 where
  pub one : Open
  pub there : Contains opens one
  pub same : one.from ≡ u

-- the nodes near a rise up to a number: those left out lead to no way as cheap as the top
pub record AreOpen (price : Price) (rises : Rises) (nodes : List Node) (q start end top : ℕ)
    (opens : List Open) : Type 0 where
  pub each : All (IsOpen price rises nodes q) opens
  pub others : (u : ℕ) (m : Node) → slice_get nodes u ≡ Some m → start ≤ u → u < end
      → HasOpen opens u ⊎ ((f : ℕ) (k : Kind) → top < going price m q f k)

-- the cheapest way to a claim by a jump from one of those, or as the first one
pub record IsJump (price : Price) (rises : Rises) (nodes : List Node) (opens : List Open) (q f : ℕ)
    (w : Way) : Type 0 where
  pub first : w.cost ≤ rises.skip * q
  pub jumps : (o : Open) (m : Node) → Contains opens o → slice_get nodes o.from ≡ Some m
      → w.cost ≤ going price m q f Jump
  pub backed : MatchOption w.from (w.cost ≡ rises.skip * q)
      (λ u. ComesFrom price rises nodes q f w u)

-- a way is the jump from a node to the elements of a class
pub record IsBy (price : Price) (class_of : ℕ → ℕ) (m : Node) (u q class : ℕ) (w : Way)
    : Type 0 where
  pub from : w.from ≡ Some u
  pub kind : w.kind ≡ Jump
  pub cost : (f : ℕ) → class_of f ≡ class → w.cost ≡ going price m q f Jump

-- what is read where there is no way
abbrev pub no_way : Way
no_way = record { cost = 0; from = None; kind = Jump }
