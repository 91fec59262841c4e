use Rattle.irig_safety.proofs.OddLemmas.{HasOdd}
use Rattle.irig_safety.proofs.odd.has_odd.Given as goal

abbrev pub invariant-loop-one : goal.invariant-loop-one
invariant-loop-one l = HasOdd l.odd l.frame l.function l.one-index
