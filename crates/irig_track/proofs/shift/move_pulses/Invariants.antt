use Rattle.std.proofs.Common.{◌-◌, ◌≡◌, ◌≤◌}
use Rattle.irig_gap.specs.Items.{gap_view}
use Rattle.irig_track.proofs.MovedPulses.{moved_so_far}
use Rattle.irig_track.proofs.shift.move_pulses.Given as goal

abbrev pub invariant-loop-moved : goal.invariant-loop-moved
invariant-loop-moved l =
    (l.moved ≤ l.count)
    × (l.pulses ≡ gap_view (moved_so_far l.on l.off l.at l.moved l.initial.pulses.items) l.initial.pulses.place l.initial.pulses.capacity)

abbrev pub decreases-loop-moved : goal.decreases-loop-moved
decreases-loop-moved l = l.count - l.moved
