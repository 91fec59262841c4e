use Rattle.std.proofs.Common.{◌≡◌, ◌<◌, ℕ, length, slice_index_or}
use Rattle.irig_explaining.specs.{Opened.IsJump, Opened.no_way}
use Rattle.irig_explaining.proofs.steps.jump_ways.Given as goal

-- those of the classes so far
abbrev pub invariant-loop-class : goal.invariant-loop-class
invariant-loop-class g l = record {
  all : length l.ways.items ≡ l.class;
  each : (f : ℕ) → g.C.Costs.to_class l.costs f < l.class
      → IsJump (g.C.Costs.price l.costs) l.fn.rises l.nodes l.opens l.fn.rise f
      (slice_index_or l.ways.items (g.C.Costs.to_class l.costs f) no_way);
}
