use Rattle.std.proofs.Common.{◌≡◌, ◌<◌, ◌+◌, ℕ, length}
use Rattle.irig_law.specs.Points.{AreSaid, part_begin}
use Rattle.irig_timed.specs.Runs.{AreRunsTo}
use Rattle.irig_timed.proofs.RunPoints.{Has}
use Rattle.irig_timed.proofs.known.track_runs.Given as goal

abbrev pub invariant-loop-part : goal.invariant-loop-part
invariant-loop-part l = record {
  track : l.pulses.track ≡ l.fn.pulses.track;
  said : (n : ℕ) → l.part ≡ n + 1 → n < length l.frames → AreSaid l.format l.century l.fn.pulses.track.pulses l.frames n l.points;
  runs : AreRunsTo l.format l.fn.pulses.track.pulses (part_begin (length l.fn.pulses.track.pulses) l.frames l.part) l.runs.items;
  points : Has l.format l.century l.fn.pulses.track.pulses l.frames l.runs.items (part_begin (length l.fn.pulses.track.pulses) l.frames l.part);
}
