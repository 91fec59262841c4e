use Rattle.std.proofs.Common.{drop}
use Rattle.irig_recording.specs.Recording.{RisesFrom, UpTo}
use Rattle.irig_recording.proofs.recording.is_rising.Given as goal

abbrev pub invariant-loop-edge : goal.invariant-loop-edge
invariant-loop-edge l = record {
  forth : RisesFrom 0 l.edges × UpTo l.length l.edges → RisesFrom l.low (drop l.edge-index l.edges) × UpTo l.length (drop l.edge-index l.edges);
  back : RisesFrom l.low (drop l.edge-index l.edges) × UpTo l.length (drop l.edge-index l.edges) → RisesFrom 0 l.edges × UpTo l.length l.edges;
}
