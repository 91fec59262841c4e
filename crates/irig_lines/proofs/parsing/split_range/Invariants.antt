use Rattle.std.proofs.Common.{length, ◌-◌, ◌≡◌, ◌≤◌, ◌+◌, drop, false}
use Rattle.irig_lines.proofs.RangeCut.{range_length}
use Rattle.irig_lines.proofs.parsing.split_range.Given as goal

abbrev pub invariant-loop-at : goal.invariant-loop-at
invariant-loop-at l = (l.at ≤ length l.text) × (range_length false l.text ≡ l.at + range_length l.quoted (drop l.at l.text))

abbrev pub decreases-loop-at : goal.decreases-loop-at
decreases-loop-at l = length l.text - l.at
