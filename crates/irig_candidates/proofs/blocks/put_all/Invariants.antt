use Rattle.irig_candidates.specs.Bases.{AreBases}
use Rattle.irig_candidates.proofs.blocks.put_all.Given as goal

abbrev pub invariant-loop-base : goal.invariant-loop-base
invariant-loop-base l = AreBases l.code.kind l.bases.items
