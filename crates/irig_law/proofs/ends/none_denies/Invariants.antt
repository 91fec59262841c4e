use Rattle.std.proofs.Common.{◌≡◌, ◌-◌, ◌*◌, ◌^◌, ◌<◌, ◌≤◌, ℕ, false, slice_get}
use Rattle.irig_law.specs.{Clocks.clock_of, Clocks.end_slack, Denials.denies_named, Ends.seen_at_end, Names.walk}
use Rattle.irig_law.specs.Rows.{place_in, rise_in, runs_in}
use Rattle.irig_law.specs.Elements.{IsKept}
use Rattle.irig_law.proofs.ends.none_denies.Given as goal

abbrev pub invariant-loop-place : goal.invariant-loop-place
invariant-loop-place l = record {
  some : 1 ≤ l.place;
  track : l.pulses.track ≡ l.fn.pulses.track;
  kept : IsKept l.format l.kept;
  last : l.walk.last < l.place;
  element : l.walk.element ≤ 2 ^ 36 * l.place;
  walk : l.walk ≡ walk (clock_of l.format l.fn.pulses.track.pulses l.frame (end_slack l.fn.pulses.track.pulses l.frame))
      (rise_in l.fn.pulses.track.pulses l.row) (runs_in l.format l.fn.pulses.track.pulses l.row) (l.place - 1);
  none : (k : ℕ) → 0 < k → k < l.place
      → denies_named l.format l.frame l.row.is_back (slice_get l.fn.pulses.track.pulses (place_in l.row k))
      (seen_at_end l.format l.fn.pulses.track.pulses l.frame l.row k) ≡ false;
}
