use Rattle.std.proofs.Common.{◌≡◌, Bool, ℕ, length, slice_get, Some}
use Rattle.irig_law.specs.OfOne.{is_right}
use Rattle.irig_law.proofs.believed.rights_in.Given as goal

abbrev pub invariant-loop-one : goal.invariant-loop-one
invariant-loop-one l = record {
  many : length l.list.items ≡ l.one;
  each : (i : ℕ) (y : Bool) → slice_get l.list.items i ≡ Some y → y ≡ is_right l.format l.century l.chains i;
}
