use Rattle.std.proofs.Common.{◌≡◌, map, take}
use Rattle.irig_happenings.specs.Listings.{explained_pulse}
use Rattle.irig_happenings.proofs.pulses.pulses_of.Given as goal

-- those so far
abbrev pub invariant-loop-place : goal.invariant-loop-place
invariant-loop-place l = l.pulses.items ≡ map explained_pulse (take l.place l.held.items)
