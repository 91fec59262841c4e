use Rattle.std.proofs.Common.{◌-◌, ◌≡◌, ◌≤◌, take, drop}
use Rattle.irig_gap.specs.Items.{gap_view}
use Rattle.irig_track.specs.Splices.{spliced, piece}
use Rattle.irig_track.proofs.splice.exchange.Given as goal

abbrev pub invariant-loop-moved : goal.invariant-loop-moved
invariant-loop-moved l = record {
  few : l.moved ≤ l.count;
  put : l.put ≡ gap_view (drop l.moved l.initial.put.items) 0 l.initial.put.capacity;
  taken : l.taken ≡ gap_view (piece l.at l.moved l.initial.pulses.items) l.moved l.initial.taken.capacity;
  pulses : l.pulses ≡ gap_view (spliced l.at l.moved (take l.moved l.initial.put.items) l.initial.pulses.items)
      l.initial.pulses.place l.initial.pulses.capacity;
}

abbrev pub decreases-loop-moved : goal.decreases-loop-moved
decreases-loop-moved l = l.count - l.moved
