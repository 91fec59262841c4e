use Rattle.std.proofs.Common.{arith}
use Rattle.std.proofs.lemmas.Bool.{eqb-true, eqb-false}
use Rattle.irig_gap.proofs.GapLemmas.{shows}
use Rattle.irig_gap.proofs.gap.Gap.is_full.Goals as goal

pub returns-clause-full : goal.returns-clause-full
returns-clause-full g c = λ yes.
    let s = shows _ _ _ _ c.self.view_is c.self.invariant.0 in let same = eqb-true c.self.inside.gap c.self.inside.after yes in omega arith

pub returns-clause-room : goal.returns-clause-room
returns-clause-room g c = λ no.
    let s = shows _ _ _ _ c.self.view_is c.self.invariant.0 in let apart = eqb-false c.self.inside.gap c.self.inside.after no in omega (arith, apart)
