use Rattle.std.proofs.Common.{◌≡◌, ◌<◌, ◌≤◌, ◌+◌, ◌*◌, ◌-◌, ◌^◌, length}
use Rattle.std.specs.List.{sum_by}
use Rattle.irig_journal.proofs.steps_left.weight_of_all.Given as goal

-- the sum so far and that of those that are left, which fits
abbrev pub invariant-loop-step : goal.invariant-loop-step
invariant-loop-step g l =
    let r = g.R.Reversible in
    (l.sum + sum_by (λ h. r.weighs (r.delta h.parts)) l.steps ≡ sum_by (λ h. r.weighs (r.delta h.parts)) l.fn.steps)
    × (l.sum + length l.steps * (2 ^ 64 - 1) ≤ l._len * (2 ^ 64 - 1))
    × (l._len < 2 ^ 64)

abbrev pub decreases-loop-step : goal.decreases-loop-step
decreases-loop-step g l = length l.steps
