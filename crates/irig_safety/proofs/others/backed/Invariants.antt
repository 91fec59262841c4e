use Rattle.irig_safety.proofs.OtherLemmas.{Backs}
use Rattle.irig_safety.proofs.others.backed.Given as goal

abbrev pub invariant-loop-place : goal.invariant-loop-place
invariant-loop-place l = Backs l.format l.frames l.kept.items l.place
