use Rattle.std.proofs.Common.{◌≡◌, map, take, length}
use Rattle.std.specs.List.{range_with_len}
use Rattle.irig_candidates.specs.Rows.{row_at}
use Rattle.irig_candidates.proofs.code.Code.new.Given as goal

abbrev pub invariant-loop-element : goal.invariant-loop-element
invariant-loop-element l = record {
  done : take l.element l.rows ≡ map (row_at l.format) (range_with_len 0 l.element);
  long : length l.rows ≡ 100;
}
