use Rattle.std.proofs.Common.{List, length, ap, sym, ◌∙◌, arith}
use Rattle.irig_recording.specs.declared.pulse.Pulse.{Pulse}
use Rattle.irig_edit.proofs.StateLemmas.Risings.{before-zero, risen-before}
use Rattle.irig_guarding.proofs.place.rising_before.Goals as goal

pub returns-then-time-eq0 : goal.returns-then-time-eq0
returns-then-time-eq0 c =
    sym (rw c.if-time-eq0.true (ap (λ (ps : List Pulse). length ps) (before-zero c.args.session.now.state.pulses)))

pub returns-else-time-eq0 : goal.returns-else-time-eq0
returns-else-time-eq0 c = c.find.ensures ∙ risen-before c.args.time c.args.session.now.state.pulses (omega (arith, c.if-time-eq0.false))
