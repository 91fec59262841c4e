use Rattle.std.proofs.Common.{◌≡◌, ◌≤◌}
use Rattle.irig_timed.specs.Reasons.{HasNoTime}
use Rattle.irig_stamps.specs.{HoleTexts.IsUpTo, Holes.HasBegun}
use Rattle.irig_stamps.proofs.untimed.walk.Given as goal

abbrev pub invariant-loop-place : goal.invariant-loop-place
invariant-loop-place l = record {
  same : l.pulses.track ≡ l.fn.pulses.track;
  begun : HasBegun l.fn.pulses.track.pulses l.place l.begin;
  within : l.begin ≤ l.fn.pulses.track.micros;
  up : IsUpTo (HasNoTime l.format l.settings.alone l.settings.century l.fn.pulses.track.pulses) l.json l.settings.comma
      l.begin l.pending;
}
