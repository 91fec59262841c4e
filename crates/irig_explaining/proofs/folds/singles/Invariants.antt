use Rattle.std.proofs.Common.{◌≡◌, map, take}
use Rattle.irig_explaining.specs.Folds.{single}
use Rattle.irig_explaining.proofs.folds.singles.Given as goal

-- those so far
abbrev pub invariant-loop-distance : goal.invariant-loop-distance
invariant-loop-distance l = l.singles.items ≡ map single (take l.distance-index l.distances)
