use Rattle.std.proofs.Common.{◌++◌, List, ℕ, drop}
use Rattle.irig_explaining.specs.{Explanation.AreClaims, Recorded.rises_of}
use Rattle.irig_happenings.specs.Margins.{MarginsAfter}
use Rattle.irig_happenings.proofs.margins.margins_after.Given as goal

-- the margins so far, and those that follow
abbrev pub invariant-loop-claim : goal.invariant-loop-claim
invariant-loop-claim l = record {
  possible : AreClaims (rises_of l.prices) l.before (drop l.claim-index l.rest);
  exact : (later : List ℕ) → MarginsAfter l.prices l.fn.least l.before (drop l.claim-index l.rest) later
      → MarginsAfter l.prices l.fn.least l.fn.first l.rest (l.margins.items ++ later);
}
