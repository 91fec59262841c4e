use Rattle.std.proofs.Common.{◌≡◌, ◌+◌, ◌-◌, ◌≤◌, ◌^◌}
use Rattle.std.specs.Prelude.{max}
use Rattle.irig_times.specs.Steps.{micros_between}
use Rattle.irig_timed.specs.Bends.{bend_at, greatest, most_within}
use Rattle.irig_timed.proofs.off.most_within.Given as goal

abbrev pub invariant-loop-number : goal.invariant-loop-number
invariant-loop-number l = record {
  track : l.pulses.track ≡ l.fn.pulses.track;
  step : l.step ≡ micros_between l.fn.pulses.track.pulses (l.number - 1) l.number;
  short : l.step ≤ 2 ^ 40;
  low : l.most ≤ 2 ^ 40;
  rest : max l.most (greatest (bend_at l.format l.fn.pulses.track.pulses) l.number (l.marker + 99 - l.number))
      ≡ most_within l.format l.fn.pulses.track.pulses l.marker;
}
