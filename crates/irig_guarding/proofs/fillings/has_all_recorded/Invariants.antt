use Rattle.std.proofs.Common.{◌<◌, ℕ}
use Rattle.irig_guarding.specs.Fillings.{HasFunction}
use Rattle.irig_guarding.proofs.fillings.has_all_recorded.Given as goal

abbrev pub invariant-loop-function : goal.invariant-loop-function
invariant-loop-function l = (k : ℕ) → k < l.function → HasFunction l.opened l.session.state l.frame k
