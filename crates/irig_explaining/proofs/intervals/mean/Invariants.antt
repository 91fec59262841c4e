use Rattle.std.proofs.Common.{◌≡◌, ◌*◌, ◌^◌, ◌≤◌, take}
use Rattle.irig_explaining.specs.Clocks.{counts, fars}
use Rattle.irig_explaining.proofs.intervals.mean.Given as goal

-- the sums so far
abbrev pub invariant-loop-distance : goal.invariant-loop-distance
invariant-loop-distance l = record {
  far : l.far ≡ fars l.fn.at l.fn.spread (take l.distance-index l.distances);
  count : l.count ≡ counts l.fn.at l.fn.spread (take l.distance-index l.distances);
  short : l.far ≤ l.distance-index * 2 ^ 48;
  few : l.count ≤ l.distance-index * 4;
}
