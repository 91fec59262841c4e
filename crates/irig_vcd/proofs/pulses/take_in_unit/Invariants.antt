use Rattle.std.proofs.Common.{◌≡◌, ◌≤◌, ◌-◌, ◌∷◌, [], length}
use Rattle.irig_vcd.specs.{Code.Along.LiesOn, Code.Scanned.IsTraced, Code.Scanned.Passes, Scan.Scan, Scan.closed}
use Rattle.irig_vcd.proofs.PulseSteps.{words_here}
use Rattle.irig_vcd.proofs.pulses.take_in_unit.Given as goal

abbrev pub invariant-loop-at : goal.invariant-loop-at
invariant-loop-at l = record {
  back : 16 ≤ l.at;
  within : l.at ≤ length l.source;
  here : LiesOn l.stretch l.trace;
  extent : l.trace.extent ≡ l.fn.trace.extent;
  late : l.trace.time ≤ l.clock.whole;
  fewer : length (words_here l.base l.source l.at) ≤ length l.fn.tokens;
  passes : (s : Scan) → s.opened ≡ closed → IsTraced l.unit s l.fn.trace l.fn.from
      → Passes (l.code ∷ []) l.unit s l.fn.tokens l.trace l.clock (words_here l.base l.source l.at);
}

abbrev pub decreases-loop-at : goal.decreases-loop-at
decreases-loop-at l = length l.source - l.at
