use Rattle.irig_safety.specs.Terms.{without_others}
use Rattle.irig_guard.proofs.OtherLemmas.{ShowsRest}
use Rattle.irig_guard.proofs.others.terms_of.Given as goal

abbrev pub invariant-loop-place : goal.invariant-loop-place
invariant-loop-place g l = ShowsRest (g.D.Disk.held l.disk) l.chosen.format l.chosen.others.items (without_others l.chosen.moved) l.terms l.place
