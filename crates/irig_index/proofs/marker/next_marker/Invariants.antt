use Rattle.std.proofs.Common.{◌≡◌, [], ◌-◌, ◌*◌, ◌<◌, ◌≤◌, ℕ}
use Rattle.irig_track.specs.Looks.{after_looks, lens_view}
use Rattle.irig_index.specs.Frames.{record_after}
use Rattle.irig_index.proofs.marker.next_marker.Given as goal

-- no marker so far
abbrev pub invariant-loop-next : goal.invariant-loop-next
invariant-loop-next l = record {
  order : l.place ≤ l.next;
  within : l.next ≤ l.to;
  few : l.made ≤ 2 * (l.next - l.place);
  lens : l.lens ≡ lens_view l.fn.lens.track (after_looks l.fn.lens.looks l.made);
  looks : l.looks ≡ l.fn.looks;
  none : (k : ℕ) → l.place ≤ k → k < l.next → record_after l.fn.format l.fn.lens.track.pulses k ≡ [];
}

abbrev pub decreases-loop-next : goal.decreases-loop-next
decreases-loop-next l = l.to - l.next
