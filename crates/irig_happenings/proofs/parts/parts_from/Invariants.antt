use Rattle.std.proofs.Common.{◌≡◌, ◌+◌, ◌++◌, ◌≤◌, drop}
use Rattle.irig_happenings.specs.Parts.{noise, rest_of, start}
use Rattle.irig_happenings.proofs.parts.parts_from.Given as goal

-- the parts so far, and those that follow
abbrev pub invariant-loop-claim : goal.invariant-loop-claim
invariant-loop-claim l = record {
  exact : l.parts.items ++ rest_of l.prices l.margins l.run (drop l.claim-index l.rest)
      ≡ noise l.prices 0 l.fn.first.rise l.fn.first.rise ++ rest_of l.prices l.margins (start l.fn.first) l.rest;
  count : l.run.count ≤ l.claim-index + 1;
  happened : l.run.happened ≤ l.claim-index;
}
