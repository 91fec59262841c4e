use Rattle.std.proofs.Common.{◌≡◌, ◌-◌, ◌++◌, ◌≤◌}
use Rattle.irig_safety.specs.InStep.{steps_among}
use Rattle.irig_safety.proofs.in_step.add_steps.Given as goal

abbrev pub invariant-loop-place : goal.invariant-loop-place
invariant-loop-place l = (l.place - l.from ≤ l.to - l.from)
    × (l.steps.items ≡ l.fn.steps.items ++ steps_among l.format l.pulses l.from (l.place - l.from))
