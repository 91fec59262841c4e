-- What explanations cost that do not give an interval the place, in parts. This project's own.
use Rattle.std.specs.Prelude.{ℕ, ◌≡◌, ◌+◌, ◌-◌, ◌*◌, ◌<◌, ◌≤◌, ◌⊎◌, Contains, List}
use Rattle.irig_explaining.specs.declared.{asked.Asked.Asked, claim.Kind.Kind, rises.Rises.Rises}
use Rattle.irig_explaining.specs.declared.nodes.Node.{Node}
use Rattle.irig_explaining.specs.{Ends.ending, Explanation.Price, Nodes.IsCost, Turned.turned}

-- a node of one of the first rises, and what an explanation costs that ends there
pub record EndsBelow (rises : Rises) (nodes : List Node) (below total : ℕ) : Type 0 where
  pub node : Node
  pub there : Contains nodes node
  pub early : node.rise < below
  pub exact : total ≡ ending rises node

-- what one without a step over the interval costs: no claims, or the last one before the interval,
-- or the first one after it
abbrev pub CostsWithout : Rises → List Node → List Node → Asked → ℕ → Type 0
CostsWithout rises before after a total = (total ≡ rises.skip * rises.count)
    ⊎ (EndsBelow rises before (a.interval + 1) total
    ⊎ EndsBelow rises after (rises.count - 1 - a.interval) total)

-- no more than what any explanation costs that has no step over the interval
pub record NoStep (rises : Rises) (before after : List Node) (a : Asked) (bound : ℕ) : Type 0 where
  pub none : bound ≤ rises.skip * rises.count
  pub ends : (n : Node) → Contains before n → n.rise < a.interval + 1 → bound ≤ ending rises n
  pub begins : (n : Node) → Contains after n → n.rise < rises.count - 1 - a.interval
      → bound ≤ ending rises n

-- a step can lead over the interval from a rise and its element to those
pub record IsOver (rises : Rises) (a : Asked) (r e q f : ℕ) : Type 0 where
  pub early : r < a.interval + 1
  pub late : a.interval < q
  pub last : q < rises.count
  pub near : q ≤ r + rises.window
  pub start : e < rises.states
  pub end : f < rises.states

-- which steps are looked at, by their rises and elements
abbrev pub Steps : Type 1
Steps = ℕ → ℕ → ℕ → ℕ → Type 0

-- no more than what any explanation costs with such a step that gives the interval another place
pub record Elsewhere (price place : Price) (rises : Rises) (before after : List Node) (a : Asked)
    (steps : Steps) (bound : ℕ) : Type 0 where
  pub least : (r e q f : ℕ) (k : Kind) (x y : ℕ) → steps r e q f → IsOver rises a r e q f
      → (place r e q f k ≡ a.place → ⊥) → IsCost price rises before r e x
      → IsCost (turned price rises.count) rises after (rises.count - 1 - q) f y
      → bound ≤ x + price r e q f k + y

-- no more than what is spent and such a step between two claims
pub record ElsewhereBetween (price place : Price) (a : Asked) (spent r e q f bound : ℕ)
    : Type 0 where
  pub least : (k : Kind) → (place r e q f k ≡ a.place → ⊥) → bound ≤ spent + price r e q f k
