use Rattle.std.proofs.Common.{◌≡◌, take}
use Rattle.irig_recording.proofs.recording.pulses_of.Given as goal

abbrev pub invariant-loop-edge : goal.invariant-loop-edge
invariant-loop-edge l = l.kept ≡ take l.edge-index l.edges
