use Rattle.irig_recording.specs.declared.pulse.Pulse.{Pulse}
use Rattle.std.proofs.Common.{arith}
use Rattle.irig_safety.proofs.RiseLemmas.{rise_at, rise_past}
use Rattle.irig_safety.proofs.rises.has_fall.Goals as goal

pub returns-then-first-pulses : goal.returns-then-first-pulses
returns-then-first-pulses c =
    rise_at (λ (q : Pulse). q.fall) c.args.pulses.now c.args.time c.first_fall-first.result _ c.requires c.first_fall-first.ensures.before
    c.first_fall-first.ensures.after c.if-first-pulses.true

pub returns-else-first-pulses : goal.returns-else-first-pulses
returns-else-first-pulses c =
    rise_past (λ (q : Pulse). q.fall) c.args.pulses.now c.args.time c.first_fall-first.result c.requires c.first_fall-first.ensures.before
    (omega (arith, c.if-first-pulses.false))
