use Rattle.std.proofs.Common.{◌≡◌, ◌+◌, ◌<◌, ◌≤◌, ◌⊎◌, ℕ, Some, length, slice_get, slice_index_or, true}
use Rattle.irig_explaining.specs.declared.{nodes.Node.Node, opened.Open.Open}
use Rattle.irig_explaining.specs.{Lows.IsFrom, Lows.IsUnder, Reached.reaches}
use Rattle.irig_explaining.proofs.lows.step_lows.Given as goal

-- the steps from the open nodes so far
abbrev pub invariant-loop-done : goal.invariant-loop-done
invariant-loop-done g l = record {
  all : length l.lows.items ≡ length l.fn.lows.items;
  kept : (e : ℕ) → slice_index_or l.lows.items e 0 ≤ slice_index_or l.fn.lows.items e 0;
  under : (e j : ℕ) (o : Open) (m : Node) → e < length l.fn.lows.items → length l.opens ≤ j + l.done → slice_get l.opens j ≡ Some o
      → slice_get l.nodes o.from ≡ Some m → reaches o.reach e ≡ true
      → IsUnder (g.C.Costs.price l.costs) m l.fn.rise e (slice_index_or l.lows.items e 0);
  origin : (e : ℕ) → (slice_index_or l.lows.items e 0 ≡ slice_index_or l.fn.lows.items e 0)
      ⊎ IsFrom (g.C.Costs.price l.costs) l.nodes l.opens l.fn.rise e (slice_index_or l.lows.items e 0);
}
