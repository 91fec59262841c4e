use Rattle.std.proofs.Common.{◌≡◌, ◌-◌, length}
use Rattle.irig_stamps.specs.HeaderUnits.{header_unit, unit_among}
use Rattle.irig_stamps.proofs.header_unit.header_unit.Given as goal

abbrev pub invariant-loop-passed : goal.invariant-loop-passed
invariant-loop-passed l = header_unit l.name ≡ unit_among (length l.name - l.passed) l.left
