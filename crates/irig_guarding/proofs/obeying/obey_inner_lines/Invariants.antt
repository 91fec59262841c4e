use Rattle.std.proofs.Common.{take}
use Rattle.irig_safety.specs.Original.{OriginalView}
use Rattle.irig_guarding.specs.Known.{AreKnown}
use Rattle.irig_guarding.specs.Repair.{IsBeyond, ObeyedAll, texts}
use Rattle.irig_guarding.proofs.obeying.obey_inner_lines.Given as goal

abbrev pub invariant-loop-line : goal.invariant-loop-line
invariant-loop-line l = ObeyedAll l.fn.session (texts (take l.line-index l.lines)) l.session
    × IsBeyond l.fn.session l.session
    × ((o : OriginalView) → AreKnown o l.fn.session.state.pulses l.fn.known_markers.items → AreKnown o l.session.state.pulses l.known_markers.items)
