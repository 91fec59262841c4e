use Rattle.std.proofs.Common.{◌≡◌, ◌-◌}
use Rattle.irig_stamps.specs.Columns.{part_at}
use Rattle.irig_stamps.proofs.columns.parted_column.Given as goal

abbrev pub invariant-loop-passed : goal.invariant-loop-passed
invariant-loop-passed l = part_at l.comma l.k l.line ≡ part_at l.comma (l.k - l.passed) l.left
