use Rattle.std.proofs.Common.{rules, ◌≡◌, false, length}
use Rattle.irig_journal.proofs.WeightLemmas.{weight_many}
use Rattle.irig_journal.proofs.step.weight_of.Goals.{else-not-step-via-then-not-step+else-step-eq1, else-not-step-via-else-not-step}
use Rattle.irig_journal.proofs.step.weight_of.Goals as goal

pub returns : goal.returns
returns g c =
    let r = g.R.Reversible in
    let s = c.args.step.now in
    let many : s.is_group ≡ false → length s.changes.now ≡ 1 → ⊥ = λ no one.
    elim c.else-not-step.branch [ else-not-step-via-then-not-step+else-step-eq1 w ↦ search rules | else-not-step-via-else-not-step w ↦ search rules ] in
    weight_many r.delta r.gathered r.weighs g.met.R.Reversible.gathers g.met.R.Reversible.gathered_holds s.is_group s.changes.now c.loop-change.sum
    c.loop-change.change-index many (search rules) c.loop-change.invariant
