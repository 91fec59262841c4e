use Rattle.std.proofs.Common.{◌≡◌, false, take}
use Rattle.irig_safety.specs.InStep.{has_place}
use Rattle.irig_guarding.proofs.steps.any_takes_place.Given as goal

abbrev pub invariant-loop-index : goal.invariant-loop-index
invariant-loop-index l = has_place l.session.state.format (take l.index l.session.state.pulses) l.time ≡ false
