use Rattle.std.proofs.Common.{◌≡◌, ◌^◌, ◌≤◌, drop, min}
use Rattle.irig_stamps.specs.Points.{digits_after}
use Rattle.irig_stamps.proofs.point.with_digits.Given as goal

abbrev pub invariant-loop-digit : goal.invariant-loop-digit
invariant-loop-digit l = record {
  small : l.value ≤ 2 ^ 120;
  value : min (digits_after l.fn.value l.digits) (2 ^ 120) ≡ min (digits_after l.value (drop l.digit-index l.digits)) (2 ^ 120);
}
