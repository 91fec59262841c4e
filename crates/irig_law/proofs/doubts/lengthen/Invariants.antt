use Rattle.std.proofs.Common.{◌≡◌, ◌≤◌, ℕ, get_or, length}
use Rattle.irig_law.proofs.doubts.lengthen.Given as goal

abbrev pub invariant-loop-place : goal.invariant-loop-place
invariant-loop-place l = record {
  low : l._place ≤ length l.list.items;
  same : (q : ℕ) → get_or l.list.items q 0 ≡ get_or l.fn.list.items q 0;
}
