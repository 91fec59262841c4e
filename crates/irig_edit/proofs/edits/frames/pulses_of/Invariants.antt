use Rattle.std.proofs.Common.{◌≡◌, ◌*◌}
use Rattle.irig_gap.specs.Items.{gap_view}
use Rattle.irig_edit.specs.Edits.Regenerated.{frames_pulses}
use Rattle.irig_edit.proofs.edits.frames.pulses_of.Given as goal

abbrev pub invariant-loop-k : goal.invariant-loop-k
invariant-loop-k l =
    (l.pulses ≡ gap_view (frames_pulses l.format l.start l.k l.moment l.control) (100 * l.k) l.pulses.capacity)
    × (l.pulses.capacity ≡ 100 * l.frames)
