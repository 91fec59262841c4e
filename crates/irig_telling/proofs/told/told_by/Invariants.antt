use Rattle.std.proofs.Common.{◌≡◌, ◌+◌, ℕ, Option, Some, length, slice_get}
use Rattle.irig_telling.specs.Told.{IsTold}
use Rattle.irig_telling.proofs.told.told_by.Given as goal

-- the bases of the first bits
abbrev pub invariant-loop-bit : goal.invariant-loop-bit
invariant-loop-bit l = record {
  all : length l.told.items ≡ l.bit;
  each : (t : ℕ) (base : Option ℕ) → slice_get l.told.items t ≡ Some base → IsTold l.dated (l.choice.cost + l.fn.margin) t base;
}
