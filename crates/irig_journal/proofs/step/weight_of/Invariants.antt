use Rattle.std.proofs.Common.{◌≡◌, ◌-◌, ◌^◌, min, take}
use Rattle.std.specs.List.{sum_by}
use Rattle.irig_journal.specs.Journal.{one_of}
use Rattle.irig_journal.proofs.step.weight_of.Given as goal

-- the sum so far, counted up to 2^64 - 1
abbrev pub invariant-loop-change : goal.invariant-loop-change
invariant-loop-change g l =
    let r = g.R.Reversible in
    l.sum ≡ min (sum_by (λ c. r.weighs (one_of r.delta c)) (take l.change-index l.step.changes.now)) (2 ^ 64 - 1)
