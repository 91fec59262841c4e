use Rattle.std.proofs.Common.{◌≡◌, ◌≤◌, true, not, drop, length}
use Rattle.std.specs.List.{list_all}
use Rattle.irig_vcd.specs.Words.{is_space}
use Rattle.irig_vcd.proofs.part.whole_len.Given as goal

abbrev pub invariant-loop-at : goal.invariant-loop-at
invariant-loop-at l = record {
  within : l.at ≤ length l.bytes;
  dark : list_all (λ b. not (is_space b)) (drop l.at l.bytes) ≡ true;
}

abbrev pub decreases-loop-at : goal.decreases-loop-at
decreases-loop-at l = l.at
