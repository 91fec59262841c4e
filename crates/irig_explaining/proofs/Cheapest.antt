-- The cheapest explanation of some prices is that of their recording.
use Rattle.std.proofs.Common.{◌≡◌, ◌≤◌, ℕ, List, subst}
use Rattle.std.specs.Prelude.{Result, Ok, Err, IfOk}
use Rattle.irig_explaining.specs.declared.{claim.Claim.Claim, explanation.Explanation.Explanation}
use Rattle.irig_explaining.specs.declared.{prices.Prices.Prices, pulse.Pulse.Pulse, rises.Rises.Rises, role.Role.Role}
use Rattle.irig_explaining.specs.{Clocks.IsClock, Explanation.IsExplanation, Explanation.cost, Priced.price}
use Rattle.irig_explaining.specs.Recorded.{IsCheapest, rises_of}

pub is_cheapest : {E : Type 0} (nominal : ℕ) (pulses : List Pulse) (roles : List Role) (p : Prices) (rises : Rises) (result : Result Explanation E)
    → p.pulses.now ≡ pulses → p.roles.now ≡ roles → IsClock nominal pulses p.clock.now → rises ≡ rises_of p
    → IfOk result (λ x. IsExplanation rises x.claims.items) → IfOk result (λ x. cost (price p) rises x.claims.items ≡ x.cost)
    → IfOk result (λ x. (others : List Claim) → IsExplanation rises others → x.cost ≤ cost (price p) rises others)
    → IfOk result (λ x. IsCheapest nominal pulses roles x)
is_cheapest nominal pulses roles p rises (Ok x) wire frame clock same possible exact least = record {
  prices = p;
  wire = wire;
  frame = frame;
  clock = clock;
  possible = subst (λ r. IsExplanation r x.claims.items) same possible;
  exact = subst (λ r. cost (price p) r x.claims.items ≡ x.cost) same exact;
  least = subst (λ r. (others : List Claim) → IsExplanation r others → x.cost ≤ cost (price p) r others) same least;
}
is_cheapest nominal pulses roles p rises (Err e) wire frame clock same possible exact least = tt
