use Rattle.std.proofs.Common.{◌≡◌, ◌≤◌}
use Rattle.irig_safety.specs.Parity.{changes}
use Rattle.irig_safety.proofs.parity.changes.Given as goal

abbrev pub invariant-loop-function : goal.invariant-loop-function
invariant-loop-function l = (l.changed ≤ l.function) × (l.changed ≡ changes l.function l.one l.other)
