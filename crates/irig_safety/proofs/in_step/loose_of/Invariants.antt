use Rattle.irig_safety.proofs.StepLemmas.{IsLoose}
use Rattle.irig_safety.proofs.in_step.loose_of.Given as goal

abbrev pub invariant-loop-marker : goal.invariant-loop-marker
invariant-loop-marker l = IsLoose l.format l.pulses l.markers l.loose.items l.from l.marker-index
