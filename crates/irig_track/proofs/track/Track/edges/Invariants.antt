use Rattle.std.proofs.Common.{◌≡◌, ◌*◌, take, length, vec_capacity}
use Rattle.irig_track.specs.Edges.{edges_of}
use Rattle.irig_track.proofs.track.Track.edges.Given as goal

abbrev pub invariant-loop-index : goal.invariant-loop-index
invariant-loop-index l =
    (l.edges.items ≡ edges_of (take l.index l.self-inside.pulses.items)) × (vec_capacity l.edges ≡ 2 * length l.self-inside.pulses.items)
