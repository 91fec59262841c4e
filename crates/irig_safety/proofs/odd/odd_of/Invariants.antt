use Rattle.std.proofs.Common.{◌≡◌}
use Rattle.irig_safety.specs.OddFunctions.{odd_among}
use Rattle.irig_safety.proofs.odd.odd_of.Given as goal

abbrev pub invariant-loop-function : goal.invariant-loop-function
invariant-loop-function l = l.odd.items ≡ odd_among l.format l.pulses l.marker l.frame l.function
