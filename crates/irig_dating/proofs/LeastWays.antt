-- The cheapest way on from a candidate.
use Rattle.std.proofs.Common.{◌≡◌, ◌+◌, ◌^◌, ◌<◌, ◌≤◌, ℕ, List, [], ◌∷◌, get_or, Option, arith, refl}
use Rattle.irig_dating.specs.declared.ways.Way.{Way}
use Rattle.irig_dating.specs.Choices.{Prices, cost_from, step}
use Rattle.irig_dating.specs.Rows.{AreRest, IsLeast, IsRow, IsWay}

-- no rest costs less than the cheapest way
low : (p : Prices) (bits t : ℕ) (before : Option ℕ) (row : List ℕ) (least : ℕ) → IsRow p bits t row → t < bits
    → ((d : ℕ) → d ≤ p.last t → least ≤ step p t before d + get_or row d 0)
    → (cs : List ℕ) → AreRest p bits t cs → least ≤ cost_from p t before cs
low p bits t before row least is lt ways [] h = let same = h.0 in absurd (omega arith)
low p bits t before row least is lt ways (d ∷ ds) h =
    let c = h.1 in let same = h.0 in omega (arith, ways d c.0, (is.each d c.0).low ds (omega arith, c.1))

-- a way that costs no more than any other one
pub way_is : (p : Prices) (bits t : ℕ) (before : Option ℕ) (row : List ℕ) (w : Way) → IsRow p bits t row → t < bits → w.to ≤ p.last t
    → w.cost ≡ step p t before w.to + get_or row w.to 0 → w.cost ≤ get_or row w.to 0 + 2 ^ 33
    → ((d : ℕ) → d ≤ p.last t → w.cost ≤ step p t before d + get_or row d 0) → IsWay p bits t before row w
way_is p bits t before row w is lt there exact small ways =
    let rest = is.each w.to there in record {
      least = record {
        low = low p bits t before row w.cost is lt ways;
        rest = w.to ∷ rest.rest;
        possible = (let same = rest.possible.0 in omega arith, (there, rest.possible.1));
        exact = omega (arith, exact, rest.exact);
        small = let few = rest.small in omega arith;
      };
      there = there;
      exact = exact;
    }

-- nothing is left after the last bit
pub none_left : (p : Prices) (bits t : ℕ) (before : Option ℕ) → t ≡ bits → IsLeast p bits t before 0
none_left p bits t before end = record {
  low = λ cs h. omega arith;
  rest = [];
  possible = (omega arith, tt);
  exact = refl;
  small = omega arith;
}
