use Rattle.std.proofs.Common.{◌≡◌, ◌+◌, ◌-◌, ℕ, suc, take, drop, subst, arith}
use Rattle.irig_edit.specs.Opened.Walk.{ahead_of, gone_along}
use Rattle.irig_edit.proofs.OpenedLemmas.Walks.{back_more, back_none}
use Rattle.irig_edit.proofs.opened.walk.Walk.go_back.Goals as goal

pub loop-init : goal.loop-init
loop-init c = λ h ds is can stands none long. back_none h c.args.self.now ds (c.args.count - 0) stands none (omega (arith, long))

pub loop-preserved : goal.loop-preserved
loop-preserved c = λ h ds is can stands none long.
    let n = c.args.count - (c.loop.counter + 1) in
    let more : c.args.count - c.loop.counter ≡ suc n = omega (arith, c.loop-test.true) in
    let there = subst (λ (m : ℕ). c.loop.self ≡ ahead_of (gone_along h (take m ds)) (drop m ds)) more (c.loop.invariant h ds is can stands none long) in
    back_more h c.loop.self c.undo.new.self ds n is can (omega (arith, long, more, c.loop-test.true)) there c.undo.ensures
