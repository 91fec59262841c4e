use Rattle.std.proofs.Common.{◌≡◌, map, take}
use Rattle.irig_explaining.specs.Clocks.{off_width}
use Rattle.irig_explaining.proofs.spreads.off_widths.Given as goal

-- those so far
abbrev pub invariant-loop-pulse : goal.invariant-loop-pulse
invariant-loop-pulse l = l.found.items ≡ map (off_width l.fn.nominal) (take l.pulse-index l.pulses)
