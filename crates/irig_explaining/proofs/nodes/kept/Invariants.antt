use Rattle.std.proofs.Common.{◌<◌, ◌⊎◌, ℕ}
use Rattle.std.specs.List.{All, Contains}
use Rattle.irig_explaining.specs.Rows.{IsBeaten, IsIn, node_of}
use Rattle.irig_explaining.proofs.nodes.kept.Given as goal

-- those so far that are not beaten
abbrev pub invariant-loop-element : goal.invariant-loop-element
invariant-loop-element g l = record {
  those : All (IsIn l.fn.rise l.row) l.kept.items;
  best_too : l.fn.best < l.element → Contains l.kept.items (node_of l.fn.rise l.row l.fn.best);
  others : (e : ℕ) → e < l.element → Contains l.kept.items (node_of l.fn.rise l.row e)
      ⊎ IsBeaten (g.C.Costs.price l.costs) (node_of l.fn.rise l.row l.fn.best) (node_of l.fn.rise l.row e);
}
