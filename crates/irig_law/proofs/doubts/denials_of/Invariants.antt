use Rattle.std.proofs.Common.{◌≡◌, ◌+◌, ◌-◌, ◌≤◌, ℕ, get_or}
use Rattle.irig_law.specs.{OfOne.sum_from, Quiet.denied_at, Quiet.denying, Quiet.one_of}
use Rattle.irig_law.specs.Elements.{IsKept}
use Rattle.irig_law.proofs.doubts.denials_of.Given as goal

abbrev pub invariant-loop-number : goal.invariant-loop-number
invariant-loop-number l = record {
  track : l.pulses.track ≡ l.fn.pulses.track;
  kept : IsKept l.format l.kept;
  few : (q : ℕ) → get_or l.list.items q 0 + (l.from.marker + 100) ≤ l.number;
  sum : (q : ℕ) → get_or l.list.items q 0
      + sum_from (λ k. one_of q (denied_at l.format l.fn.pulses.track.pulses l.from l.to l.periods k)) l.number (l.to.marker - l.number)
      ≡ denying l.format l.fn.pulses.track.pulses l.from l.to l.periods q;
}
