use Rattle.std.proofs.Common.{◌+◌, ℕ, slice_get}
use Rattle.irig_safety.specs.{Controls.IsFunctionBorne, Functions.function_element}
use Rattle.irig_safety.proofs.ControlLemmas.{to_next}
use Rattle.irig_guarding.proofs.controls.are_functions_borne.Goals as goal

pub loop-function-preserved : goal.loop-function-preserved
loop-function-preserved c = to_next (λ (k : ℕ). IsFunctionBorne c.args.session.now.state.format c.args.opened.now c.args.near.now c.args.frame.now.shown k
    (slice_get c.args.session.now.state.pulses (c.args.frame.now.marker + function_element c.args.session.now.state.format k)))
    c.loop-function.function c.loop-function.invariant (c.is_function_borne.ensures.0 c.if-not-is_function_borne.false)
