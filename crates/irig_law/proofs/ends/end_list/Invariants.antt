use Rattle.std.proofs.Common.{◌≡◌, ◌+◌, ℕ, length, slice_get, Option, Some}
use Rattle.irig_law.specs.Seens.{end_of}
use Rattle.irig_law.specs.declared.point.Point.{Point}
use Rattle.irig_law.proofs.ends.end_list.Given as goal

abbrev pub invariant-loop-place : goal.invariant-loop-place
invariant-loop-place l = record {
  many : length l.list.items ≡ l.place;
  each : (i : ℕ) (y : Option Point) → slice_get l.list.items i ≡ Some y → y ≡ end_of l.format l.frame l.none l.steps (l.frame.marker + i);
}
