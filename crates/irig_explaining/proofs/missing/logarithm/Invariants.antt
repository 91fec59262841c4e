use Rattle.std.proofs.Common.{◌+◌, ◌≡◌, ◌*◌, ◌≤◌}
use Rattle.irig_explaining.specs.Missing.{halved, logarithm}
use Rattle.irig_explaining.proofs.missing.logarithm.Given as goal

-- what is left to look up
abbrev pub invariant-loop-left : goal.invariant-loop-left
invariant-loop-left l = record {
  exact : l.more + halved l.left l.left ≡ logarithm l.fn.number;
  small : l.more + 11 * l.left ≤ 11 * l.fn.number;
}

abbrev pub decreases-loop-left : goal.decreases-loop-left
decreases-loop-left l = l.left
