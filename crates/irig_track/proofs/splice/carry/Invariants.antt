use Rattle.std.proofs.Common.{◌-◌, ◌≡◌, ◌+◌, ◌≤◌, []}
use Rattle.irig_gap.specs.Items.{gap_view}
use Rattle.irig_track.specs.Splices.{spliced, piece}
use Rattle.irig_track.proofs.splice.carry.Given as goal

abbrev pub invariant-loop-moved : goal.invariant-loop-moved
invariant-loop-moved l =
    (l.moved ≤ l.count)
    × (l.from ≡ gap_view (spliced l.initial.from.place l.moved [] l.initial.from.items) l.initial.from.place l.initial.from.capacity)
    × (l.to ≡ gap_view (spliced l.initial.to.place 0 (piece l.initial.from.place l.moved l.initial.from.items) l.initial.to.items)
    (l.initial.to.place + l.moved) l.initial.to.capacity)

abbrev pub decreases-loop-moved : goal.decreases-loop-moved
decreases-loop-moved l = l.count - l.moved
