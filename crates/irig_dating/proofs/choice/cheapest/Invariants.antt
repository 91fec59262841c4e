use Rattle.irig_dating.proofs.Reading.{IsRead}
use Rattle.irig_dating.proofs.choice.cheapest.Given as goal

-- the candidates so far
abbrev pub invariant-loop-bit : goal.invariant-loop-bit
invariant-loop-bit g l = IsRead (g.C.Costs.prices l.costs) l.fn.bits l.bit l.before l.candidates.items
