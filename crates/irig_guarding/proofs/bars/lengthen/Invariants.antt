use Rattle.std.proofs.Common.{◌≡◌, ℕ, None, get_or, length}
use Rattle.irig_guarding.proofs.bars.lengthen.Given as goal

abbrev pub invariant-loop-place : goal.invariant-loop-place
invariant-loop-place l = record {
  long : length l.bars.items ≡ l._place;
  same : (at : ℕ) → get_or l.bars.items at None ≡ get_or l.fn.bars.items at None;
}
