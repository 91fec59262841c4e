-- The cheapest explanation of a recording. This project's own.
use Rattle.std.specs.Prelude.{ℕ, ◌≡◌, ◌≤◌, List, length}
use Rattle.irig_explaining.specs.declared.{claim.Claim.Claim, explanation.Explanation.Explanation}
use Rattle.irig_explaining.specs.declared.{prices.Prices.Prices, pulse.Pulse.Pulse, rises.Rises.Rises}
use Rattle.irig_explaining.specs.declared.role.Role.{Role}
use Rattle.irig_explaining.specs.declared.table.TheConstants.{SKIP, WINDOW}
use Rattle.irig_explaining.specs.{Clocks.IsClock, Explanation.IsExplanation, Explanation.cost, Priced.price}

-- what is explained: all rises, as elements of a frame
abbrev pub rises_of : Prices → Rises
rises_of p = record {
  count = length p.pulses.now;
  states = length p.roles.now;
  window = WINDOW;
  skip = SKIP;
}

-- by the prices of some pulses and their clock an explanation costs what it says, and none is
-- cheaper
pub record IsCheapest (nominal : ℕ) (pulses : List Pulse) (roles : List Role) (x : Explanation)
    : Type 0 where
  pub prices : Prices
  pub wire : prices.pulses.now ≡ pulses
  pub frame : prices.roles.now ≡ roles
  pub clock : IsClock nominal pulses prices.clock.now
  pub possible : IsExplanation (rises_of prices) x.claims.items
  pub exact : cost (price prices) (rises_of prices) x.claims.items ≡ x.cost
  pub least : (others : List Claim) → IsExplanation (rises_of prices) others
      → x.cost ≤ cost (price prices) (rises_of prices) others
