use Rattle.std.proofs.Common.{◌≡◌, map, take}
use Rattle.irig_guarding.proofs.opening.markers_of.Given as goal

abbrev pub invariant-loop-frame : goal.invariant-loop-frame
invariant-loop-frame l = l.markers.items ≡ map (λ y. y.marker) (take l.frame-index l.frames)
