use Rattle.std.proofs.Common.{◌≡◌, map, take}
use Rattle.irig_explaining.specs.Clocks.{interval_of}
use Rattle.irig_explaining.proofs.intervals.intervals.Given as goal

-- those so far
abbrev pub invariant-loop-place : goal.invariant-loop-place
invariant-loop-place l = l.intervals.items ≡ map (interval_of l.fn.nominal l.fn.spread l.distances l.middles) (take l.place-index l.places)
