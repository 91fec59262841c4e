use Rattle.std.proofs.Common.{◌≡◌, ◌≤◌}
use Rattle.irig_timed.specs.Elements.{AreWith}
use Rattle.irig_timed.proofs.run.add_points.Given as goal

abbrev pub invariant-loop-number : goal.invariant-loop-number
invariant-loop-number l = record {
  order : l.from ≤ l.number;
  track : l.pulses.track ≡ l.fn.pulses.track;
  added : AreWith l.format l.fn.pulses.track.pulses l.fn.list.items l.list.items l.points l.from l.number;
}
