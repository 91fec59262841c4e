use Rattle.std.proofs.Common.{◌≡◌, map, take}
use Rattle.irig_guarding.specs.declared.seen.Seen.{Seen}
use Rattle.irig_guarding.proofs.seen.shown_among.Given as goal

abbrev pub invariant-loop-frame : goal.invariant-loop-frame
invariant-loop-frame l = l.shown.items ≡ map (λ (y : Seen). y.shown) (take l.frame-index l.seen)
