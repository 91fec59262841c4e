use Rattle.std.proofs.Common.{◌≡◌, ◌≤◌, ◌-◌, ℕ, true, false, get_or, length, slice_get, Some}
use Rattle.std.specs.Prelude.{◌↔◌}
use Rattle.irig_law.specs.declared.frame.Frame.{Frame}
use Rattle.irig_agreement.proofs.DoubtLists.{IsBefore}
use Rattle.irig_agreement.proofs.doubts.doubts_of.Given as goal

abbrev pub invariant-loop-place : goal.invariant-loop-place
invariant-loop-place l = record {
  track : l.pulses.track ≡ l.fn.pulses.track;
  short : (a : Frame) → slice_get l.frames (l.place - 1) ≡ Some a → length l.list.items ≤ a.marker;
  doubts : (k : ℕ) → (get_or l.list.items k false ≡ true) ↔ IsBefore l.format l.century l.fn.pulses.track.pulses l.frames l.place k;
}
