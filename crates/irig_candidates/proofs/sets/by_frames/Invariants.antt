use Rattle.std.proofs.Common.{◌≡◌, ◌<◌, ◌≤◌, length}
use Rattle.std.specs.List.{All}
use Rattle.irig_candidates.specs.Bases.{IsSet}
use Rattle.irig_candidates.proofs.sets.by_frames.Given as goal

abbrev pub invariant-loop-number : goal.invariant-loop-number
invariant-loop-number l = record {
  sets : All (λ set. IsSet set.items) l.sets.items;
  all : length l.which.items ≡ l.number;
  there : All (λ number. number < length l.sets.items) l.which.items;
  some : 0 < l.number → 0 < length l.sets.items;
  few : length l.sets.items ≤ l.number;
}
