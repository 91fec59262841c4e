use Rattle.std.proofs.Common.{◌≡◌, ◌<◌, ◌^◌, ℕ, length, slice_get, Some}
use Rattle.irig_law.specs.OfOne.{size_of}
use Rattle.irig_law.proofs.of_one.sizes_of.Given as goal

abbrev pub invariant-loop-one : goal.invariant-loop-one
invariant-loop-one l = record {
  many : length l.list.items ≡ l.one;
  each : (i n : ℕ) → slice_get l.list.items i ≡ Some n → (n ≡ size_of l.format l.century l.chains i) × (n < 2 ^ 80);
}
