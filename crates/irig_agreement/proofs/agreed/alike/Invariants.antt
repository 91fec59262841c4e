use Rattle.std.proofs.Common.{◌≡◌}
use Rattle.irig_agreement.specs.Agreed.{RiseAlike}
use Rattle.irig_agreement.proofs.agreed.alike.Given as goal

abbrev pub invariant-loop-many : goal.invariant-loop-many
invariant-loop-many l = record {
  before : l.before.track ≡ l.fn.before.track;
  after : l.after.track ≡ l.fn.after.track;
  alike : RiseAlike l.fn.before.track.pulses l.fn.after.track.pulses l.one l.other l.many;
}
