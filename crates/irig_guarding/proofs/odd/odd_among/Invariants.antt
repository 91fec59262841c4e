use Rattle.std.proofs.Common.{◌≡◌, take}
use Rattle.std.specs.List.{flat_map}
use Rattle.irig_guarding.specs.Reading.{odd_by}
use Rattle.irig_guarding.proofs.odd.odd_among.Given as goal

abbrev pub invariant-loop-frame : goal.invariant-loop-frame
invariant-loop-frame l = l.all.items ≡ flat_map (odd_by l.format l.pulses) (take l.frame-index l.seen)
