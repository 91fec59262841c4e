use Rattle.std.proofs.Common.{[], ◌∷◌}
use Rattle.irig_vcd.specs.Code.Along.{at_micros}
use Rattle.irig_vcd.proofs.PulseSteps.{micros_step}
use Rattle.irig_vcd.proofs.pulses.take_in_micros.Goals as goal

pub returns-clause-passes : goal.returns-clause-passes
returns-clause-passes c = λ s none.
    micros_step (c.args.code ∷ []) c.new.result (at_micros c.args.from) c.in_ok-clock.clock s
    c.args.trace.now c.take_in_unit.new.trace c.args.tokens.now c.take_in_unit.new.tokens
    c.new.ensures (c.in_ok-clock.ensures.passes s none)
