use Rattle.std.proofs.Common.{◌≡◌, drop, map}
use Rattle.irig_lines.specs.Tables.{found}
use Rattle.irig_lines.proofs.table.found.Given as goal

abbrev pub invariant-loop-row : goal.invariant-loop-row
invariant-loop-row g l = found l.text (map (λ row. (row.0.now, row.1)) l.rows) ≡ found l.text (map (λ row. (row.0.now, row.1)) (drop l.row-index l.rows))
