use Rattle.std.proofs.Common.{◌≡◌, ◌≤◌, ◌-◌, ◌+◌, length, not, take}
use Rattle.std.specs.List.{suffix_len}
use Rattle.irig_stamps.specs.Columns.{is_at}
use Rattle.irig_stamps.proofs.cutting.cut_back.Given as goal

abbrev pub invariant-loop-at : goal.invariant-loop-at
invariant-loop-at l = record {
  within : l.at ≤ length l.text;
  left : suffix_len (λ b. not (is_at l.until b)) l.text ≡ suffix_len (λ b. not (is_at l.until b)) (take l.at l.text) + (length l.text - l.at);
}

abbrev pub decreases-loop-at : goal.decreases-loop-at
decreases-loop-at l = l.at
