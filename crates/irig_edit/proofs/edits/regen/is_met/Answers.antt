use Rattle.std.proofs.Common.{sym}
use Rattle.irig_edit.proofs.StateLemmas.PulsesAtTimes.{is_met-last, is_met-none}
use Rattle.irig_edit.proofs.edits.regen.is_met.Goals as goal

pub returns-then-risen-gt0 : goal.returns-then-risen-gt0
returns-then-risen-gt0 c =
    sym (is_met-last c.args.time c.args.risen c.args.present.now.state c.pulse.result c.track-track.ensures.state c.requires.count c.if-risen-gt0.true
    c.pulse.ensures.there)

pub returns-else-risen-gt0 : goal.returns-else-risen-gt0
returns-else-risen-gt0 c = sym (is_met-none c.args.time c.args.risen c.args.present.now.state c.requires.count c.if-risen-gt0.false)
