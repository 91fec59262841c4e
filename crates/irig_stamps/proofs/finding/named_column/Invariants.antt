use Rattle.std.proofs.Common.{◌≡◌, ◌+◌, ℕ}
use Rattle.irig_stamps.specs.{Columns.column_of, HeaderSteps.IsSoFar, Named.has_name}
use Rattle.irig_stamps.proofs.finding.named_column.Given as goal

abbrev pub invariant-loop-place : goal.invariant-loop-place
invariant-loop-place l = record {
  left : (j : ℕ) → column_of l.comma (l.place + j) l.line ≡ column_of l.comma j l.left;
  found : IsSoFar (has_name l.comma l.name l.line) l.place l.found;
}
