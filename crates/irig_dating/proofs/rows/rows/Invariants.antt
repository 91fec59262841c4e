use Rattle.std.proofs.Common.{◌≡◌, length}
use Rattle.irig_dating.specs.Rows.{AreRows}
use Rattle.irig_dating.proofs.rows.rows.Given as goal

-- the rows of the last bits
abbrev pub invariant-loop-done : goal.invariant-loop-done
invariant-loop-done g l = record {
  all : length l.rows.items ≡ l.done;
  rows : AreRows (g.C.Costs.prices l.costs) l.fn.bits l.rows.items;
}
