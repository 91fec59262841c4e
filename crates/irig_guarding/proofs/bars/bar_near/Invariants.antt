use Rattle.std.proofs.Common.{◌≡◌, ℕ, List, Some, slice_get}
use Rattle.irig_codes.specs.Format.{FormatView}
use Rattle.irig_recording.specs.declared.pulse.Pulse.{Pulse}
use Rattle.irig_agreement.specs.declared.fault.Fault.{Fault}
use Rattle.irig_guarding.specs.Bars.{AreBars, HaveLedTo}
use Rattle.irig_guarding.proofs.bars.bar_near.Given as goal

abbrev pub invariant-loop-fault : goal.invariant-loop-fault
invariant-loop-fault l = (recorded : List Pulse) (f : FormatView) (lines : List (List ℕ))
    → ((i : ℕ) (why : Fault) → slice_get l.faults i ≡ Some why → HaveLedTo recorded f lines l.kept why)
    → AreBars recorded f lines l.fn.bars.items → AreBars recorded f lines l.bars.items
