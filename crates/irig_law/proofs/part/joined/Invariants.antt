use Rattle.irig_law.specs.Points.{AreJoined}
use Rattle.irig_law.proofs.part.joined.Given as goal

abbrev pub invariant-loop-place : goal.invariant-loop-place
invariant-loop-place l = record {
  joined : AreJoined l.before l.from l.fn.list.items l.list.items l.place;
}
