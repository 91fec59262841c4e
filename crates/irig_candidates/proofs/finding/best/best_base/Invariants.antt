use Rattle.std.proofs.Common.{◌≡◌, take, IfSome, MatchOption}
use Rattle.irig_candidates.proofs.BestLemmas.{IsExact, IsLeast}
use Rattle.irig_candidates.proofs.finding.best.best_base.Given as goal

abbrev pub invariant-loop-base : goal.invariant-loop-base
invariant-loop-base l = record {
  exact : IfSome l.best (IsExact l.code l.bits);
  least : MatchOption l.best (l.base-index ≡ 0) (IsLeast l.code l.bits (take l.base-index l.bases));
}
