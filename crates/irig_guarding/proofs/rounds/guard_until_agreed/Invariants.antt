use Rattle.irig_guarding.specs.{Bars.AreBars, Repair.texts, Undone.IsUndone}
use Rattle.irig_guarding.proofs.rounds.guard_until_agreed.Given as goal

abbrev pub invariant-loop-round : goal.invariant-loop-round
invariant-loop-round l =
    IsUndone l.fn.session l.session × AreBars l.opened.pulses l.fn.session.state.format (texts l.lines) l.bars.items
