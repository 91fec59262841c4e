use Rattle.std.proofs.Common.{◌≡◌, take}
use Rattle.irig_track.specs.Edges.{edges_of}
use Rattle.irig_guarding.proofs.copying.edges_of.Given as goal

abbrev pub invariant-loop-index : goal.invariant-loop-index
invariant-loop-index l = l.edges.items ≡ edges_of (take l.index l.session.state.pulses)
