use Rattle.std.proofs.Common.{◌≡◌, ◌++◌, ◌^◌, ◌≤◌, drop}
use Rattle.irig_explaining.specs.Folds.{places, places_after}
use Rattle.irig_explaining.proofs.folds.places.Given as goal

-- those so far, and those that follow
abbrev pub invariant-loop-pulse : goal.invariant-loop-pulse
invariant-loop-pulse l = record {
  exact : l.places.items ++ places_after l.fn.nominal l.place l.before (drop l.pulse-index l.pulses) ≡ places l.fn.nominal l.pulses;
  few : l.place ≤ l.pulse-index;
  early : l.before ≤ 2 ^ 40;
}
