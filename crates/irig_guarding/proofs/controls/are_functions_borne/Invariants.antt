use Rattle.std.proofs.Common.{◌+◌, ◌<◌, ℕ, slice_get}
use Rattle.irig_safety.specs.{Controls.IsFunctionBorne, Functions.function_element}
use Rattle.irig_guarding.proofs.controls.are_functions_borne.Given as goal

abbrev pub invariant-loop-function : goal.invariant-loop-function
invariant-loop-function l = (k : ℕ) → k < l.function → IsFunctionBorne l.session.state.format l.opened l.near l.frame.shown k
    (slice_get l.session.state.pulses (l.frame.marker + function_element l.session.state.format k))
