use Rattle.std.proofs.Common.{◌≡◌, ◌≤◌, drop}
use Rattle.irig_explaining.specs.{Explanation.AreClaims, Recorded.rises_of}
use Rattle.irig_telling.specs.Tallies.{tally_after, tally_from}
use Rattle.irig_telling.proofs.tallying.tally_after.Given as goal

-- the tally so far, and the claims that follow
abbrev pub invariant-loop-claim : goal.invariant-loop-claim
invariant-loop-claim l = record {
  possible : AreClaims (rises_of l.prices) l.before (drop l.claim-index l.rest);
  exact : tally_from l.prices l.tally l.before (drop l.claim-index l.rest) ≡ tally_after l.prices l.fn.first l.rest;
  clear : l.tally.clear ≤ l.claim-index;
  wrong : l.tally.wrong ≤ l.claim-index;
}
