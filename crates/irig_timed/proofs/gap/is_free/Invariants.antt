use Rattle.std.proofs.Common.{◌≡◌, ◌+◌, ◌-◌}
use Rattle.irig_law.specs.{OfOne.any_from, Rows.is_clean}
use Rattle.irig_timed.proofs.gap.is_free.Given as goal

abbrev pub invariant-loop-number : goal.invariant-loop-number
invariant-loop-number l = record {
  track : l.pulses.track ≡ l.fn.pulses.track;
  rest : any_from (is_clean l.format l.fn.pulses.track.pulses) (l.one + 1) (l.other - (l.one + 1))
      ≡ any_from (is_clean l.format l.fn.pulses.track.pulses) l.number (l.other - l.number);
}
