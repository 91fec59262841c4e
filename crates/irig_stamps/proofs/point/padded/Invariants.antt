use Rattle.std.proofs.Common.{◌≡◌, ◌^◌, ◌≤◌, ◌-◌, min}
use Rattle.irig_stamps.specs.Points.{digits_after, padded}
use Rattle.irig_stamps.proofs.point.padded.Given as goal

abbrev pub invariant-loop-place : goal.invariant-loop-place
invariant-loop-place l = record {
  small : l.value ≤ 2 ^ 120;
  value : min (digits_after l.fn.value (padded l.places l.fn.fraction)) (2 ^ 120)
      ≡ min (digits_after l.value (padded (l.places - l.place) l.left)) (2 ^ 120);
}
