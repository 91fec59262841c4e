use Rattle.std.proofs.Common.{◌≡◌, ℕ, ◌+◌, ◌-◌, ◌%◌, ◌<◌, ◌≤◌, [], false, length, slice_get, take, Some}
use Rattle.irig_codes.specs.Ones.{raised}
use Rattle.irig_track.specs.Looks.{after_looks, lens_view}
use Rattle.irig_index.specs.{Frames.frame_at, Frames.record_after, Marker.class_at, Marker.is_position, Verdict.elements_of, Verdict.first_fault}
use Rattle.irig_index.proofs.frame.check.Given as goal

-- no pulse so far fails or is a marker, and which of their elements are One is kept
abbrev pub invariant-loop-k : goal.invariant-loop-k
invariant-loop-k l = record {
  lens : l.lens ≡ lens_view l.fn.lens.track (after_looks l.fn.lens.looks (l.k - 1));
  before : slice_get l.fn.lens.track.pulses (l.at + l.k - 1) ≡ Some l.before;
  long : length (elements_of l.format (take l.k (frame_at l.fn.lens.track.pulses l.at))) ≡ l.k;
  ones : raised (elements_of l.format (take l.k (frame_at l.fn.lens.track.pulses l.at))) ≡ l.ones;
  rest : first_fault l.format (frame_at l.fn.lens.track.pulses l.at) (100 - l.k) l.k
      ≡ first_fault l.format (frame_at l.fn.lens.track.pulses l.at) 99 1;
  digits : l.digits ≡ 9 - l.k % 10;
  digit : l.k % 10 ≡ 9 → is_position (class_at l.format l.before) ≡ false;
  alone : (j : ℕ) → l.at ≤ j → j + 1 < l.at + l.k → record_after l.format l.fn.lens.track.pulses j ≡ [];
}
