use Rattle.std.proofs.Common.{◌^◌, ◌≤◌, length}
use Rattle.irig_candidates.specs.Bases.{AreBases}
use Rattle.irig_candidates.proofs.finding.look_in.Given as goal

abbrev pub invariant-loop-rest : goal.invariant-loop-rest
invariant-loop-rest g l = record {
  few : length l.rest ≤ 2 ^ 30;
  known : AreBases l.code.kind l.bases.items;
}

abbrev pub decreases-loop-rest : goal.decreases-loop-rest
decreases-loop-rest g l = length l.rest
