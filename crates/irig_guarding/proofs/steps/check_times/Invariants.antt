use Rattle.irig_guarding.proofs.StepsLemmas.{InPlaceAll}
use Rattle.irig_guarding.proofs.steps.check_times.Given as goal

abbrev pub invariant-loop-time : goal.invariant-loop-time
invariant-loop-time l = InPlaceAll l.session.state l.times l.time-index
