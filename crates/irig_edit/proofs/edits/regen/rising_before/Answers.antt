use Rattle.std.proofs.Common.{List, length, ap, sym, ◌∙◌, arith}
use Rattle.irig_recording.specs.declared.pulse.Pulse.{Pulse}
use Rattle.irig_edit.proofs.StateLemmas.Risings.{before-zero, risen-before}
use Rattle.irig_edit.proofs.edits.regen.rising_before.Goals as goal

pub returns-then-time-eq0-clause-count : goal.returns-then-time-eq0-clause-count
returns-then-time-eq0-clause-count c =
    sym (rw c.if-time-eq0.true (ap (λ (ps : List Pulse). length ps) (before-zero c.args.present.now.state.pulses)))

pub returns-else-time-eq0-clause-count : goal.returns-else-time-eq0-clause-count
returns-else-time-eq0-clause-count c =
    c.find.ensures.count ∙ risen-before c.args.time c.args.present.now.state.pulses (omega (arith, c.if-time-eq0.false))
