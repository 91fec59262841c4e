use Rattle.std.proofs.Common.{◌≡◌, ◌-◌, ◌<◌, ◌≤◌, ℕ, Bool, slice_get, Some}
use Rattle.irig_law.specs.Names.{seen, walk}
use Rattle.irig_law.specs.declared.clock.Clock.{Clock}
use Rattle.irig_law.proofs.seens.last_named.Given as goal

abbrev pub invariant-loop-place : goal.invariant-loop-place
invariant-loop-place l = record {
  some : 1 ≤ l.place;
  last : l.walk.last < l.place;
  walk : (c : Clock) (rise : ℕ → ℕ) (runs : ℕ → Bool) → ((k : ℕ) → k < l.many → slice_get l.list k ≡ Some (seen c rise runs k))
      → l.walk ≡ walk c rise runs (l.place - 1);
}
