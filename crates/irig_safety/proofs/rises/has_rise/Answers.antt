use Rattle.std.proofs.Common.{◌∙◌, arith}
use Rattle.irig_recording.specs.declared.pulse.Pulse.{Pulse}
use Rattle.irig_safety.proofs.RiseLemmas.{rise_at, rise_past}
use Rattle.irig_safety.proofs.rises.has_rise.Goals as goal
use Rattle.irig_safety.proofs.rises.has_rise.Goals.{then-first-pulses, else-first-pulses}

pub returns-else-found : goal.returns-else-found
returns-else-found c = elim c.if-first-pulses.branch [
  | then-first-pulses w ↦ w.found-is ∙ rise_at (λ (q : Pulse). q.rise) c.args.pulses.now c.args.time c.first_rise-first.result _ c.requires
      c.first_rise-first.ensures.before c.first_rise-first.ensures.after w.if-first-pulses.true
  | else-first-pulses w ↦ w.found-is ∙ rise_past (λ (q : Pulse). q.rise) c.args.pulses.now c.args.time c.first_rise-first.result c.requires
      c.first_rise-first.ensures.before (omega (arith, w.if-first-pulses.false))
]
