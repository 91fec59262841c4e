use Rattle.std.proofs.Common.{◌≡◌, ◌<◌, ℕ, length, slice_index_or}
use Rattle.irig_explaining.specs.Rows.{IsMost}
use Rattle.irig_explaining.proofs.nodes.mosts.Given as goal

-- those of the classes so far
abbrev pub invariant-loop-class : goal.invariant-loop-class
invariant-loop-class g l = record {
  all : length l.mosts.items ≡ l.class;
  each : (e : ℕ) → g.C.Costs.from_class l.costs e < l.class
      → IsMost (g.C.Costs.price l.costs) l.fn.rise l.fn.this e (slice_index_or l.mosts.items (g.C.Costs.from_class l.costs e) 0);
}
