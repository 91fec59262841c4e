use Rattle.std.proofs.Common.{length}
use Rattle.irig_patch.proofs.Inverts.{Goes}
use Rattle.irig_patch.proofs.patching.invert_all.Given as goal

abbrev pub invariant-loop-stretch : goal.invariant-loop-stretch
invariant-loop-stretch l = Goes l.fn.left l.left l.fn.session l.session

abbrev pub decreases-loop-stretch : goal.decreases-loop-stretch
decreases-loop-stretch l = length l.left
