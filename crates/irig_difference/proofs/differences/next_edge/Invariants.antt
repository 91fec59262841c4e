use Rattle.std.proofs.Common.{◌≡◌, length}
use Rattle.irig_recording.specs.Recording.{RisesFrom}
use Rattle.irig_difference.specs.Flips.{flips}
use Rattle.irig_difference.proofs.differences.next_edge.Given as goal

-- what is left has the same differences
abbrev pub invariant-loop-was : goal.invariant-loop-was
invariant-loop-was l = record {
  before : RisesFrom 0 l.before;
  after : RisesFrom 0 l.after;
  same : flips l.after l.before ≡ flips l.fn.after l.fn.before;
}

abbrev pub decreases-loop-was : goal.decreases-loop-was
decreases-loop-was l = length l.before
