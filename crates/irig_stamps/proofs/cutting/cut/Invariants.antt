use Rattle.std.proofs.Common.{length, ◌-◌, ◌≤◌}
use Rattle.irig_stamps.proofs.Cuts.{IsCut}
use Rattle.irig_stamps.proofs.cutting.cut.Given as goal

abbrev pub invariant-loop-at : goal.invariant-loop-at
invariant-loop-at l = (l.at ≤ length l.text) × IsCut l.until l.text l.at

abbrev pub decreases-loop-at : goal.decreases-loop-at
decreases-loop-at l = length l.text - l.at
