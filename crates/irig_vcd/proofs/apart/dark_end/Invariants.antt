use Rattle.std.proofs.Common.{◌≡◌, ◌≤◌, ◌-◌, length, drop, true}
use Rattle.irig_vcd.specs.Words.{words_from}
use Rattle.irig_vcd.proofs.apart.dark_end.Given as goal

abbrev pub invariant-loop-at : goal.invariant-loop-at
invariant-loop-at l = record {
  within : l.at ≤ length l.source;
  words : words_from l.at true (drop l.at l.source) ≡ words_from l.from true (drop l.from l.source);
}

abbrev pub decreases-loop-at : goal.decreases-loop-at
decreases-loop-at l = length l.source - l.at
