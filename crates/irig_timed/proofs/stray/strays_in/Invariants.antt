use Rattle.std.proofs.Common.{◌≡◌, ◌+◌, ◌-◌, ◌≤◌, ◌^◌}
use Rattle.std.specs.Prelude.{max}
use Rattle.irig_timed.specs.{Bends.greatest, Strays.most_after, Strays.strays_in}
use Rattle.irig_timed.proofs.stray.strays_in.Given as goal

abbrev pub invariant-loop-number : goal.invariant-loop-number
invariant-loop-number l = record {
  track : l.pulses.track ≡ l.fn.pulses.track;
  low : l.most ≤ 2 ^ 47;
  rest : max l.most (greatest (most_after l.fn.pulses.track.pulses l.long l.elements (l.marker + 100)) l.number (l.marker + 100 - l.number))
      ≡ strays_in l.fn.pulses.track.pulses l.long l.elements l.marker;
}
