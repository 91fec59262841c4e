-- The bases that bits can have: this project's own.
use Rattle.std.specs.Prelude.{◌≡◌, ◌<◌, List, length}
use Rattle.std.specs.List.{All}
use Rattle.irig_candidates.specs.declared.bit.Bit.{Bit}
use Rattle.irig_candidates.specs.declared.sets.Sets.{Sets}
use Rattle.irig_candidates.specs.{Bases.IsSet}

-- each bit has a set that there is
pub record AreSets (bits : List Bit) (s : Sets) : Type 0 where
  pub sets : All (λ set. IsSet set.items) s.sets.items
  pub all : length s.which.items ≡ length bits
  pub there : All (λ number. number < length s.sets.items) s.which.items
