-- A recording that is read from its end, and both tables of a recording. This project's own.
use Rattle.std.specs.Prelude.{ℕ, ◌-◌, List}
use Rattle.irig_explaining.specs.declared.{rises.Rises.Rises, nodes.Node.Node}
use Rattle.irig_explaining.specs.{Explanation.Price, Nodes.AreNodes}

-- the prices of a recording that is read from its end
abbrev pub turned : Price → ℕ → Price
turned price count = λ r e q f k. price (count - 1 - q) f (count - 1 - r) e k

-- the nodes that have the least costs of what comes before claims, and of what comes after them
pub record AreTables (price : Price) (rises : Rises) (before after : List Node) : Type 0 where
  pub before_least : AreNodes price rises rises.count before
  pub after_least : AreNodes (turned price rises.count) rises rises.count after
