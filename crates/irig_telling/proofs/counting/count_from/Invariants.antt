use Rattle.std.proofs.Common.{◌≡◌, ◌+◌, ◌*◌, ◌++◌, ◌≤◌, ◌^◌, ◌∷◌, drop}
use Rattle.std.specs.List.{All}
use Rattle.irig_explaining.specs.{Distances.rise_at, Explanation.AreClaims, Recorded.rises_of}
use Rattle.irig_telling.specs.Counting.{IsFew, counted, rest_of}
use Rattle.irig_telling.proofs.counting.count_from.Given as goal

-- the places so far, and those that follow
abbrev pub invariant-loop-claim : goal.invariant-loop-claim
invariant-loop-claim l = record {
  possible : AreClaims (rises_of l.prices) l.before (drop l.claim-index l.rest);
  exact : l.places.items ++ rest_of l.prices l.before l.at (drop l.claim-index l.rest)
      ≡ counted l.prices (l.fn.first ∷ l.rest);
  stretch : l.at.stretch ≤ l.claim-index;
  element : l.at.element ≤ 2 ^ 32 + 6 * l.claim-index + 256 * rise_at l.prices l.before.rise;
  few : All IsFew l.places.items;
}
