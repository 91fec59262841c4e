use Rattle.std.proofs.Common.{◌≡◌, ◌-◌, ◌≤◌, ◌^◌}
use Rattle.std.specs.Prelude.{max}
use Rattle.irig_timed.specs.{Bends.greatest, Strays.line_off, Strays.most_after}
use Rattle.irig_timed.proofs.stray.most_after.Given as goal

abbrev pub invariant-loop-later : goal.invariant-loop-later
invariant-loop-later l = record {
  track : l.pulses.track ≡ l.fn.pulses.track;
  low : l.most ≤ 2 ^ 47;
  rest : max l.most (greatest (line_off l.fn.pulses.track.pulses l.long l.elements l.number) l.later (l.last - l.later))
      ≡ most_after l.fn.pulses.track.pulses l.long l.elements l.end l.number;
}
