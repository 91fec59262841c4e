use Rattle.std.proofs.Common.{◌-◌, ◌≤◌, ◌++◌, ◌∷◌, [], length, drop}
use Rattle.irig_recording.specs.Recording.{RisesFrom}
use Rattle.irig_track.specs.Edges.{edges_of}
use Rattle.irig_track.proofs.stands.stands.Given as goal

abbrev pub invariant-loop-index : goal.invariant-loop-index
invariant-loop-index l = (l.index ≤ length l.put.items)
    × (RisesFrom l.start (edges_of l.put.items ++ l.high ∷ []) → RisesFrom l.low (edges_of (drop l.index l.put.items) ++ l.high ∷ []))
    × (RisesFrom l.low (edges_of (drop l.index l.put.items) ++ l.high ∷ []) → RisesFrom l.start (edges_of l.put.items ++ l.high ∷ []))

abbrev pub decreases-loop-index : goal.decreases-loop-index
decreases-loop-index l = length l.put.items - l.index
