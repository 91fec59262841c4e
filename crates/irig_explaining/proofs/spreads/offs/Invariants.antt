use Rattle.std.proofs.Common.{◌≡◌, ◌++◌, drop}
use Rattle.irig_explaining.specs.Clocks.{offs}
use Rattle.irig_explaining.proofs.spreads.offs.Given as goal

-- those so far, and those that follow
abbrev pub invariant-loop-index : goal.invariant-loop-index
invariant-loop-index l = l.found.items ++ offs (drop l.index l.numbers) (drop l.index l.others) ≡ offs l.numbers l.others
