use Rattle.std.proofs.Common.{◌≡◌, ℕ, length, slice_get, Option, Some}
use Rattle.irig_law.specs.Happened.{IsPointBy}
use Rattle.irig_law.specs.declared.point.Point.{Point}
use Rattle.irig_law.proofs.stretch.points_by.Given as goal

abbrev pub invariant-loop-place : goal.invariant-loop-place
invariant-loop-place l = record {
  many : length l.list.items ≡ l.place;
  each : (i : ℕ) (y : Option Point) → slice_get l.list.items i ≡ Some y → IsPointBy l.format l.from l.to l.happened l.denials l.after l.before i y;
}
