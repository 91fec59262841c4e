use Rattle.std.proofs.Common.{◌≡◌, ◌+◌, ◌<◌, ℕ, length, get_or, Some}
use Rattle.irig_dating.specs.Rows.{IsLeast}
use Rattle.irig_dating.proofs.rows.row.Given as goal

-- the candidates so far
abbrev pub invariant-loop-candidate : goal.invariant-loop-candidate
invariant-loop-candidate g l = record {
  full : length l.row.items ≡ l.candidate;
  each : (c : ℕ) → c < l.candidate
      → IsLeast (g.C.Costs.prices l.costs) l.fn.bits (l.fn.bit + 1) (Some c) (get_or l.row.items c 0);
}
