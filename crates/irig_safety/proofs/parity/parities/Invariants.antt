use Rattle.std.proofs.Common.{◌≡◌, ◌+◌, ◌≤◌, drop}
use Rattle.irig_safety.specs.Parity.{parities}
use Rattle.irig_safety.proofs.parity.parities.Given as goal

abbrev pub invariant-loop-frame : goal.invariant-loop-frame
invariant-loop-frame l = (l.many ≤ l.frame-index)
    × (l.many + parities l.format l.parity (drop l.frame-index l.frames) ≡ parities l.format l.parity l.frames)
