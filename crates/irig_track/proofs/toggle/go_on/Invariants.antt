use Rattle.std.proofs.Common.{◌-◌, ◌≡◌, length}
use Rattle.irig_track.specs.{Edges.edges_of, Edges.Under, Sides.left_of, Sides.waiting, Sides.Stays}
use Rattle.irig_track.proofs.toggle.go_on.Given as goal

abbrev pub invariant-loop-first : goal.invariant-loop-first
invariant-loop-first l =
    (waiting l.pulses l.rise ≡ waiting l.initial.pulses l.start)
    × Under l.b (edges_of (left_of l.pulses))
    × Stays l.b l.initial.pulses l.pulses
    × (length l.pulses.items ≡ length l.initial.pulses.items)

abbrev pub decreases-loop-first : goal.decreases-loop-first
decreases-loop-first l = length l.pulses.items - l.pulses.place
