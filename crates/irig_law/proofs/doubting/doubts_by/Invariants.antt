use Rattle.std.proofs.Common.{◌≡◌, ◌+◌, ℕ, Bool, true, List, length, slice_get, Some}
use Rattle.std.specs.Prelude.{◌↔◌}
use Rattle.irig_recording.specs.declared.pulse.Pulse.{Pulse}
use Rattle.irig_law.specs.{Doubting.IsDoubted, Told.IsTold}
use Rattle.irig_law.proofs.doubting.doubts_by.Given as goal

abbrev pub invariant-loop-place : goal.invariant-loop-place
invariant-loop-place l = record {
  many : length l.list.items ≡ l.place;
  each : (century : ℕ) (ps : List Pulse) → IsTold l.format century ps l.from l.to l.told → (i : ℕ) (y : Bool) → slice_get l.list.items i ≡ Some y
      → (y ≡ true) ↔ IsDoubted l.format century ps l.from l.to (l.from.marker + i);
}
