use Rattle.std.proofs.Common.{◌≡◌, ◌+◌, ℕ, length, slice_get, Option, Some}
use Rattle.irig_law.specs.Seens.{begin_of}
use Rattle.irig_law.specs.declared.point.Point.{Point}
use Rattle.irig_law.proofs.ends.begin_list.Given as goal

abbrev pub invariant-loop-number : goal.invariant-loop-number
invariant-loop-number l = record {
  many : l.from + length l.list.items ≡ l.number;
  each : (i : ℕ) (y : Option Point) → slice_get l.list.items i ≡ Some y → y ≡ begin_of l.format l.frame l.none l.steps (l.from + i);
}
