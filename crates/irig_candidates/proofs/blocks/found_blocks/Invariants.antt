use Rattle.std.proofs.Common.{◌-◌, length}
use Rattle.irig_candidates.proofs.blocks.found_blocks.Given as goal

abbrev pub invariant-loop-first : goal.invariant-loop-first
invariant-loop-first g l = Unit {0}

abbrev pub decreases-loop-first : goal.decreases-loop-first
decreases-loop-first g l = length l.bits - l.first
