use Rattle.std.proofs.Common.{◌≡◌, ◌+◌, ◌<◌, ◌≤◌, ℕ}
use Rattle.irig_explaining.specs.Distances.{gone, rise_at}
use Rattle.irig_explaining.specs.Wires.{element, wire_end}
use Rattle.irig_explaining.proofs.prices.Prices.dearer.Given as goal

-- the most of the ends so far
abbrev pub invariant-loop-later : goal.invariant-loop-later
invariant-loop-later l = record {
  whole : element l.self l.fn.this l.fn.rise (wire_end l.self l.fn.rise)
      ≤ element l.self l.fn.other l.fn.rise (wire_end l.self l.fn.rise) + l.most;
  each : (q : ℕ) → l.fn.rise < q → q < l.later → gone l.self l.fn.rise q ≡ 1
      → element l.self l.fn.this l.fn.rise (rise_at l.self q) ≤ element l.self l.fn.other l.fn.rise (rise_at l.self q) + l.most;
  small : l.most ≤ 128;
}
