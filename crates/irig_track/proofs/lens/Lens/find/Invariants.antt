use Rattle.std.proofs.Common.{◌≡◌, ℕ, ◌-◌, ◌^◌, ◌<◌, ◌≤◌, length}
use Rattle.irig_track.specs.Splices.{risen_by}
use Rattle.irig_track.proofs.Looks.{Narrowed}
use Rattle.irig_track.proofs.lens.Lens.find.Given as goal

abbrev pub invariant-loop-low : goal.invariant-loop-low
invariant-loop-low l = record {
  low : l.low ≤ risen_by l.time l.fn.self.track.pulses;
  high : risen_by l.time l.fn.self.track.pulses ≤ l.high;
  within : l.high ≤ length l.fn.self.track.pulses;
  track : l.self.track ≡ l.fn.self.track;
  looked : (digits : ℕ) → length l.fn.self.track.pulses < 2 ^ digits → Narrowed (l.high - l.low) digits l.fn.self l.self;
}

abbrev pub decreases-loop-low : goal.decreases-loop-low
decreases-loop-low l = l.high - l.low
