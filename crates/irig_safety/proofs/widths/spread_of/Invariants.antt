use Rattle.std.proofs.Common.{◌≡◌, ◌≤◌}
use Rattle.irig_safety.specs.Widths.{spread_of}
use Rattle.irig_safety.proofs.widths.spread_of.Given as goal

abbrev pub invariant-loop-other : goal.invariant-loop-other
invariant-loop-other l = (l.spread.many ≤ l.other) × (l.spread ≡ spread_of l.format l.pulses l.marker l.element l.other)
