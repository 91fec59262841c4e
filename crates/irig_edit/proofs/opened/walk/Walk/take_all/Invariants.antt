use Rattle.std.proofs.Common.{length, reverse}
use Rattle.irig_edit.proofs.OpenedLemmas.TakenSteps.{TakenSoFar}
use Rattle.irig_edit.proofs.opened.walk.Walk.take_all.Given as goal

-- the steps taken so far, and those that are left
abbrev pub invariant-loop-step : goal.invariant-loop-step
invariant-loop-step l =
    TakenSoFar l.fn.self (reverse l.fn.steps) l.self (reverse l.steps) l.before

abbrev pub decreases-loop-step : goal.decreases-loop-step
decreases-loop-step l = length l.steps
