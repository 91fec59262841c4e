use Rattle.std.proofs.Common.{◌<◌, ℕ, length, get_or}
use Rattle.irig_explaining.specs.declared.pulse.Pulse.{Pulse}
use Rattle.irig_explaining.proofs.wires.count_after.Given as goal

-- those so far rise before the moment
abbrev pub invariant-loop-index : goal.invariant-loop-index
invariant-loop-index l = (j : ℕ) (d : Pulse) → j < l.index → j < length l.pulses → (get_or l.pulses j d).rise < l.fn.moment
