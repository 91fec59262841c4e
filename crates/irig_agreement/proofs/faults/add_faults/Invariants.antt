use Rattle.std.proofs.Common.{◌≡◌, ◌<◌, ◌-◌, ℕ, [], slice_get, Some}
use Rattle.irig_recording.specs.declared.pulse.Pulse.{Pulse}
use Rattle.irig_agreement.specs.{Agreed.HasAgreed, Agreement.Agrees, Changes.AreFaults}
use Rattle.irig_agreement.proofs.faults.add_faults.Given as goal

abbrev pub invariant-loop-number : goal.invariant-loop-number
invariant-loop-number l = record {
  before : l.before.track ≡ l.fn.before.track;
  after : l.after.track ≡ l.fn.after.track;
  faults : AreFaults l.kept.format l.kept.century l.fn.before.track.pulses l.fn.after.track.pulses l.list.items;
  agreed : HasAgreed l.kept.format l.kept.century l.fn.before.track.pulses l.fn.after.track.pulses l.agreed;
  first : l.list.items ≡ [] → l.fn.list.items ≡ [];
  none : l.list.items ≡ [] → (k : ℕ) (p : Pulse) → k < l.number → slice_get l.rises.pulses k ≡ Some p
      → Agrees l.kept.format l.kept.century l.fn.before.track.pulses l.fn.after.track.pulses (p.rise - 1)
      × Agrees l.kept.format l.kept.century l.fn.before.track.pulses l.fn.after.track.pulses p.rise;
}
