use Rattle.std.proofs.Common.{◌<◌, ◌≤◌, length, slice_index_or, take}
use Rattle.std.specs.List.{All}
use Rattle.irig_explaining.proofs.nodes.least_of.Given as goal

-- the cheapest so far
abbrev pub invariant-loop-index : goal.invariant-loop-index
invariant-loop-index l = record {
  there : 0 < length l.row → l.best < length l.row;
  low : All (λ x. slice_index_or l.row l.best 0 ≤ x) (take l.index l.row);
}
