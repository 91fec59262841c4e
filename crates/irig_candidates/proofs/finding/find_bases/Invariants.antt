use Rattle.irig_candidates.specs.Bases.{AreBases}
use Rattle.irig_candidates.proofs.finding.find_bases.Given as goal

abbrev pub invariant-loop-frames : goal.invariant-loop-frames
invariant-loop-frames g l = AreBases l.code.kind l.bases.items

abbrev pub decreases-loop-frames : goal.decreases-loop-frames
decreases-loop-frames g l = l.frames
