use Rattle.irig_dating.specs.Sure.{AreOthers}
use Rattle.irig_dating.proofs.tables.Tables.sure_below.Given as goal

-- the least one of the candidates so far
abbrev pub invariant-loop-other : goal.invariant-loop-other
invariant-loop-other g l = AreOthers (g.C.Costs.prices l.self.costs.now) l.self.bits l.fn.bit l.fn.candidate l.other l.least
