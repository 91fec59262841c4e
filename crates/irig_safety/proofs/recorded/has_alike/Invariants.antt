use Rattle.irig_safety.proofs.RecordedLemmas.{NoneBefore}
use Rattle.irig_safety.proofs.recorded.has_alike.Given as goal

abbrev pub invariant-loop-place : goal.invariant-loop-place
invariant-loop-place l = NoneBefore l.format l.any_class l.recorded l.pulse l.place
