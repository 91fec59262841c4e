use Rattle.std.proofs.Common.{◌<◌, ℕ, length, slice_index_or}
use Rattle.irig_explaining.specs.{Lows.IsLower, Lows.IsUnder, Reached.reached}
use Rattle.irig_explaining.proofs.lows.step_from.Given as goal

-- the steps to the elements so far
abbrev pub invariant-loop-number : goal.invariant-loop-number
invariant-loop-number g l = record {
  lower : IsLower (g.C.Costs.price l.costs) l.fn.node l.fn.rise l.fn.lows.items l.lows.items;
  under : (i : ℕ) → i < l.number → reached l.fn.one.reach i < length l.fn.lows.items
      → IsUnder (g.C.Costs.price l.costs) l.fn.node l.fn.rise (reached l.fn.one.reach i)
      (slice_index_or l.lows.items (reached l.fn.one.reach i) 0);
}
