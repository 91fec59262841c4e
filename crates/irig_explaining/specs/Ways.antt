-- What steps cost that give an interval another place. This project's own.
use Rattle.std.specs.Prelude.{ℕ, ◌≡◌, ◌+◌, ◌-◌, Contains, List}
use Rattle.irig_explaining.specs.declared.{asked.Asked.Asked, claim.Kind.Kind, rises.Rises.Rises}
use Rattle.irig_explaining.specs.declared.nodes.Node.{Node}
use Rattle.irig_explaining.specs.{Bounds.IsOver, Explanation.Price, Nodes.IsCost, Turned.turned}

-- what an explanation costs with a step that gives the interval another place
pub record OtherWay (price place : Price) (rises : Rises) (before after : List Node) (a : Asked)
    (total : ℕ) : Type 0 where
  pub r : ℕ
  pub e : ℕ
  pub q : ℕ
  pub f : ℕ
  pub kind : Kind
  pub over : IsOver rises a r e q f
  pub unlike : place r e q f kind ≡ a.place → ⊥
  pub x : ℕ
  pub y : ℕ
  pub start : IsCost price rises before r e x
  pub end : IsCost (turned price rises.count) rises after (rises.count - 1 - q) f y
  pub exact : total ≡ x + price r e q f kind + y

-- what a step between two claims costs, after what is spent, that gives the interval another place
pub record OtherKind (price place : Price) (a : Asked) (spent r e q f total : ℕ) : Type 0 where
  pub kind : Kind
  pub unlike : place r e q f kind ≡ a.place → ⊥
  pub exact : total ≡ spent + price r e q f kind

-- what one costs with a step from a node of a rise to a claim, after which all costs the rest
pub record OtherFrom (price place : Price) (nodes : List Node) (a : Asked) (r rest q f total : ℕ)
    : Type 0 where
  pub node : Node
  pub there : Contains nodes node
  pub beside : node.rise ≡ r
  pub other : OtherKind price place a (node.cost + rest) r node.element q f total
