use Rattle.std.proofs.Common.{◌≡◌, ◌+◌, Bool, ℕ, length, slice_get, Some}
use Rattle.irig_law.specs.{Clocks.slack_of, Denials.denies_second}
use Rattle.irig_law.specs.Elements.{IsKept}
use Rattle.irig_law.proofs.happened.second_denials.Given as goal

abbrev pub invariant-loop-place : goal.invariant-loop-place
invariant-loop-place l = record {
  track : l.pulses.track ≡ l.fn.pulses.track;
  kept : IsKept l.format l.kept;
  many : length l.list.items ≡ l.place;
  each : (i : ℕ) (y : Bool) → slice_get l.list.items i ≡ Some y
      → y ≡ denies_second l.format l.fn.pulses.track.pulses l.to (slack_of l.fn.pulses.track.pulses l.from l.to) (l.from.marker + i);
}
