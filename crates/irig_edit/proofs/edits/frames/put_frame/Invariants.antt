use Rattle.std.proofs.Common.{◌≡◌, ◌+◌, ◌++◌, map}
use Rattle.std.specs.List.{range_with_len}
use Rattle.irig_gap.specs.Items.{gap_view}
use Rattle.irig_edit.specs.Edits.Regenerated.{element_pulse}
use Rattle.irig_edit.proofs.edits.frames.put_frame.Given as goal

abbrev pub invariant-loop-element : goal.invariant-loop-element
invariant-loop-element l =
    l.pulses ≡ gap_view (l.initial.pulses.items ++ map (element_pulse l.format l.start l.k l.elements) (range_with_len 0 l.element))
    (l.initial.pulses.place + l.element) l.initial.pulses.capacity
