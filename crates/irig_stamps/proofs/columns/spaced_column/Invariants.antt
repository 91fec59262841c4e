use Rattle.std.proofs.Common.{◌≡◌, ◌-◌}
use Rattle.irig_stamps.specs.Columns.{word_at}
use Rattle.irig_stamps.proofs.columns.spaced_column.Given as goal

abbrev pub invariant-loop-passed : goal.invariant-loop-passed
invariant-loop-passed l = word_at l.k l.line ≡ word_at (l.k - l.passed) l.left
