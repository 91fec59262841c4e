use Rattle.std.proofs.Common.{◌≡◌, ◌≤◌}
use Rattle.irig_safety.specs.Parity.{ones_of_functions}
use Rattle.irig_safety.proofs.parity.ones_of_functions.Given as goal

abbrev pub invariant-loop-function : goal.invariant-loop-function
invariant-loop-function l = (l.many ≤ l.function) × (l.many ≡ ones_of_functions l.format l.function l.frame)
