use Rattle.std.proofs.Common.{◌≡◌, take}
use Rattle.irig_edit.proofs.session.session.Session.pulses.Given as goal

abbrev pub invariant-loop-index : goal.invariant-loop-index
invariant-loop-index l = l.pulses.items ≡ take l.index l.track.pulses
