use Rattle.std.proofs.Common.{arith, refl}
use Rattle.irig_safety.proofs.StepLemmas.{steps_all, steps_more, steps_none}
use Rattle.irig_safety.proofs.in_step.add_steps.Goals as goal

pub loop-place-init : goal.loop-place-init
loop-place-init c = (omega arith, steps_none c.args.format c.args.pulses.now c.args.from c.args.from c.args.steps.now.items refl)

pub loop-place-preserved : goal.loop-place-preserved
loop-place-preserved c = (
  omega arith,
  steps_more c.args.format c.args.pulses.now c.args.from c.loop-place.place _ _ c.args.steps.now.items c.loop-place.steps.items _
      c.loop-place.auto.place c.is_in_step-so.ensures c.rise_at.ensures c.loop-place.invariant.1 c.in_ok-add_if.ensures,
)

pub returns : goal.returns
returns c = steps_all c.args.format c.args.pulses.now c.args.from c.loop-place.place c.args.to c.args.steps.now.items c.loop-place.steps.items
    (omega (arith, c.loop-place-test.false)) c.loop-place.invariant.0 c.loop-place.invariant.1
