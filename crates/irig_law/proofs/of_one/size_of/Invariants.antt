use Rattle.std.proofs.Common.{◌≡◌, ◌+◌, ◌-◌, ◌*◌, ◌^◌, ◌≤◌}
use Rattle.irig_law.specs.OfOne.{share, sum_from}
use Rattle.irig_law.proofs.of_one.size_of.Given as goal

abbrev pub invariant-loop-other : goal.invariant-loop-other
invariant-loop-other l = record {
  low : l.total ≤ 2 ^ 64 * (l.other - l.first);
  sum : l.total + sum_from (share l.format l.century l.chains l.one) l.other (l.end - l.other)
      ≡ sum_from (share l.format l.century l.chains l.one) l.first (l.end - l.first);
}
