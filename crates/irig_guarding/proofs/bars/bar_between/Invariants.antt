use Rattle.std.proofs.Common.{ℕ, List}
use Rattle.irig_codes.specs.Format.{FormatView}
use Rattle.irig_recording.specs.declared.pulse.Pulse.{Pulse}
use Rattle.irig_guarding.specs.Bars.{AreBars, HaveLedTo}
use Rattle.irig_guarding.proofs.bars.bar_between.Given as goal

abbrev pub invariant-loop-at : goal.invariant-loop-at
invariant-loop-at l = (recorded : List Pulse) (f : FormatView) (lines : List (List ℕ)) → HaveLedTo recorded f lines l.kept l.fault
    → AreBars recorded f lines l.fn.bars.items → AreBars recorded f lines l.bars.items
