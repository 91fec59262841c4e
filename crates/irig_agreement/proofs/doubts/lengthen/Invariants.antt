use Rattle.std.proofs.Common.{◌≡◌, ℕ, false, get_or, length}
use Rattle.irig_agreement.proofs.doubts.lengthen.Given as goal

abbrev pub invariant-loop-place : goal.invariant-loop-place
invariant-loop-place l = record {
  long : length l.list.items ≡ l._place;
  same : (k : ℕ) → get_or l.list.items k false ≡ get_or l.fn.list.items k false;
}
