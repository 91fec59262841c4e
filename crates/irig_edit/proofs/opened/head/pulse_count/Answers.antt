use Rattle.std.proofs.Common.{rules}
use Rattle.irig_edit.proofs.OpenedLemmas.Heads.{pulses_count}
use Rattle.irig_edit.proofs.opened.head.pulse_count.Goals as goal

pub returns : goal.returns
returns c =
    let count = pulses_count c.pulses.result.now.items c.args.recording.now.edges c.pulses.ensures.exact in
    search rules
